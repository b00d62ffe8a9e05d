-- The sign that stands in owned texts for what is not UTF-8.
use Rattle.std.specs.Prelude.{ℕ, Bool, false, ◌||◌, List, [], ◌∷◌, nat_eq}
use Rattle.std.specs.List.{starts_with}
use Rattle.trace_values.specs.Reading.{values_to_items}
use Rattle.trace_values.specs.Values.{Value, text, list, map, Items, no_items, item, Pairs, no_pairs, pair}
use Rattle.trace_wire.specs.Runs.{Item, EventItem}

-- the bytes of U+FFFD
abbrev pub sign : List ℕ
sign = 0xEF ∷ 0xBF ∷ 0xBD ∷ []

-- somewhere in the bytes it stands
abbrev pub has_sign : List ℕ → Bool
has_sign [] = false
has_sign (b ∷ bytes) = starts_with nat_eq (b ∷ bytes) sign || has_sign bytes

-- a text that has it, or a list or a map that holds one
abbrev mutual
  pub holds_sign : Value → Bool
  holds_sign (text t) = has_sign t
  holds_sign (list vs) = items_hold_sign vs
  holds_sign (map ps) = pairs_hold_sign ps
  holds_sign v = false

  pub items_hold_sign : Items → Bool
  items_hold_sign no_items = false
  items_hold_sign (item v vs) = holds_sign v || items_hold_sign vs

  pub pairs_hold_sign : Pairs → Bool
  pairs_hold_sign no_pairs = false
  pairs_hold_sign (pair x y ps) = holds_sign x || (holds_sign y || pairs_hold_sign ps)

-- an event one of whose values holds it
abbrev pub frame_holds_sign : Item → Bool
frame_holds_sign (EventItem id time values) = items_hold_sign (values_to_items values)
frame_holds_sign shown = false
