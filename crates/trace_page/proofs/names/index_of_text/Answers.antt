use Rattle.std.proofs.Common.{String, Global, string_bytes, sym}
use Rattle.std.specs.Cmp.Lexicographic.{bytes_decides}
use Rattle.std.specs.Str.{bytes_eq}
use Rattle.trace_page.proofs.Named.{found_at, stands_named}
use Rattle.trace_page.proofs.names.index_of_text.Goals as goal

pub returns-in-Some-clause-index : goal.returns-in-Some-clause-index
returns-in-Some-clause-index c =
    let keys = c.args.strings.now.keys in
    let text = c.args.text.now in
    let i = c.in-Some.index in
    let f = found_at (λ (k : String Global). bytes_eq text (string_bytes k)) keys i (sym c.in-Some.ensures.index) in
    stands_named string_bytes keys i f.0 text f.1 ((bytes_decides text (string_bytes f.0)).0 f.2)
