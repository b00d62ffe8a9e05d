-- Stacks of events, and their texts.
use Rattle.std.specs.Prelude.{ℕ, List, [], ◌∷◌, ◌++◌, Option, Some, None, codes, reverse}
use Rattle.std.specs.FinMap as map
use Rattle.std.specs.Ordering.{nat_cmp}
use Rattle.std.specs.List.{flat_map}
use Rattle.trace_values.specs.AddressTexts.{address_text}
use Rattle.trace_values.specs.Values.{Value, stack, pooled_stack}

-- the stack that a value is, with what the pool of stacks holds in place of an id
abbrev pub stack_of : map.FinMap nat_cmp (List ℕ) → Value → Option (List ℕ)
stack_of stacks (stack xs) = Some xs
stack_of stacks (pooled_stack id) = map.get stacks id
stack_of stacks v = None

-- the first where it is there, else the second
abbrev pub or_else : Option (List ℕ) → Option (List ℕ) → Option (List ℕ)
or_else (Some xs) other = Some xs
or_else None other = other

-- the first stack among values
abbrev pub first_stack : map.FinMap nat_cmp (List ℕ) → List Value → Option (List ℕ)
first_stack stacks [] = None
first_stack stacks (v ∷ vs) = or_else (stack_of stacks v) (first_stack stacks vs)

-- an address after another in a line
abbrev pub after_text : ℕ → List ℕ
after_text x = codes ";" ++ address_text x

-- addresses in a line, with `;` between them
abbrev pub line_text : List ℕ → List ℕ
line_text [] = codes "none"
line_text (x ∷ xs) = address_text x ++ flat_map after_text xs

-- the text of a stack: its addresses from the outermost, which stands last
abbrev pub folded_text : List ℕ → List ℕ
folded_text xs = line_text (reverse xs)
