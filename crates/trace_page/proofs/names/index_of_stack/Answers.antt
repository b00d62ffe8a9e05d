use Rattle.std.proofs.Common.{ℕ, Vec, Global, sym}
use Rattle.std.specs.Cmp.Lexicographic.{bytes_decides}
use Rattle.std.specs.Str.{bytes_eq}
use Rattle.trace_page.proofs.Named.{found_at, stands_named}
use Rattle.trace_page.proofs.names.index_of_stack.Goals as goal

pub returns-in-Some-clause-index : goal.returns-in-Some-clause-index
returns-in-Some-clause-index c =
    let keys = c.args.stacks.now.keys in
    let stack = c.args.stack.now in
    let i = c.in-Some.index in
    let f = found_at (λ (k : Vec ℕ Global). bytes_eq stack k.items) keys i (sym c.in-Some.ensures.index) in
    stands_named (λ (v : Vec ℕ Global). v.items) keys i f.0 stack f.1 ((bytes_decides stack f.0.items).0 f.2)
