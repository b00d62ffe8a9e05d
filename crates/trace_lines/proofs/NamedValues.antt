-- The fields of an event as they are appended one after another, each under its name.
use Rattle.std.proofs.Common.{◌≡◌, ℕ, ◌+◌, ◌<◌, ◌≤◌, List, [], ◌∷◌, ◌++◌, length, drop, get_or, map as list_map, sym}
use Rattle.std.proofs.Common.{ap, ap₂, refl, ◌∙◌, arith}
use Rattle.std.specs.List.{flat_map}
use Rattle.std.proofs.lemmas.List.{drop_more, drop_all}
use Rattle.trace_values.specs.Values.{Value}
use Rattle.trace_wire.specs.Schemas.{Field}
use Rattle.trace_wire.specs.Runs.{Pools}
use Rattle.trace_values.proofs.CompareLoops.{ElementAt}
use Rattle.dial9_trace_format.specs.ShownEvents.{names_of}
use Rattle.dial9_trace_format.specs.declared.resolve.error.DeserError.{DeserError}
use Rattle.dial9_trace_format.specs.declared.resolve.error.DeserError.TheVariants as errors
use Rattle.dial9_trace_format.specs.Resolving.{in_full, under_names, field_unresolved, unknown_ids, FirstUnresolved}
use Rattle.dial9_trace_format.proofs.ValuesResolved.{named_none, all_resolved}
use Rattle.trace_lines.specs.ResolvedLines.{entry_text}

-- the first of the values that are left
first_left :
    {V : Type 0} (values : List V) (i : ℕ) (x : V) → i < length values → x ≡ get_or values i x →
    drop i values ≡ x ∷ drop (i + 1) values
first_left {V} values i x lt here = drop_more values i x lt ∙ ap (λ (z : V). z ∷ drop (i + 1) values) (sym here)

-- the text of the fields that are left
abbrev pub left_text : {V : Type 0} → (V → Value) → Pools → List Field → List V → List ℕ
left_text see p names values =
    flat_map entry_text (under_names (names_of names) (list_map (in_full p) (list_map see values)))

-- the first of the fields that are left
pub field_first :
    {V : Type 0} (see : V → Value) (p : Pools) {names : List Field} {name : Field} {others : List Field}
    (values : List V) (i : ℕ) {x : V} {called : List ℕ} →
    names ≡ name ∷ others → ElementAt values i x → called ≡ name.name →
    left_text see p names (drop i values)
    ≡ entry_text (called, in_full p (see x)) ++ left_text see p others (drop (i + 1) values)
field_first {V} see p {names} {name} {others} values i {x} parts at same =
    let rest = left_text see p others (drop (i + 1) values) in
    ap₂ (λ (ns : List Field) (vs : List V). left_text see p ns vs) parts (first_left values i x at.inside at.is)
    ∙ ap (λ (n : List ℕ). entry_text (n, in_full p (see x)) ++ rest) (sym same)

-- when no value is left no field is
pub no_value_left :
    {V : Type 0} (see : V → Value) (p : Pools) (names : List Field) (values : List V) (i : ℕ) → length values ≤ i →
    left_text see p names (drop i values) ≡ []
no_value_left {V} see p names values i le =
    ap (λ (vs : List V). left_text see p names vs) (drop_all i values le)
    ∙ ap (flat_map entry_text) (named_none (names_of names))

nameless : (vs : List Value) → under_names [] vs ≡ []
nameless [] = refl
nameless (v ∷ vs) = refl

-- when no name is left, too
pub no_field_left :
    {V : Type 0} (see : V → Value) (p : Pools) (names : List Field) (values : List V) → length names ≡ 0 →
    left_text see p names values ≡ []
no_field_left see p [] values empty = ap (flat_map entry_text) (nameless (list_map (in_full p) (list_map see values)))
no_field_left see p (n ∷ names) values empty = absurd (omega (arith, empty))

-- ---- what is unresolved

-- what is unresolved of the fields that are left
abbrev pub left_unresolved : {V : Type 0} → (V → Value) → Pools → List Field → List V → List DeserError
left_unresolved see p names values = field_unresolved p (names_of names) (list_map see values)

-- a value is left, and no name
pub no_name_left :
    {V : Type 0} (see : V → Value) (p : Pools) (names : List Field) (values : List V) (i : ℕ) {x : V}
    (whole : List DeserError) → length names ≡ 0 →
    ElementAt values i x → left_unresolved see p names (drop i values) ≡ whole →
    FirstUnresolved whole errors.SchemaShort
no_name_left see p [] values i {x} whole none at same =
    ([], sym same ∙ ap (left_unresolved see p []) (first_left values i x at.inside at.is))
no_name_left see p (n ∷ names) values i whole none at same = absurd (omega (arith, none))

-- a field without unknown ids leaves the first unknown one to the others
pub field_known :
    {V : Type 0} (see : V → Value) (p : Pools) {names : List Field} {name : Field} {others : List Field}
    (values : List V) (i : ℕ)
    {x : V} {whole : List DeserError} →
    names ≡ name ∷ others → ElementAt values i x → unknown_ids p (see x) ≡ [] →
    left_unresolved see p names (drop i values) ≡ whole → left_unresolved see p others (drop (i + 1) values) ≡ whole
field_known {V} see p {names} {name} {others} values i {x} parts at none before =
    let rest = left_unresolved see p others (drop (i + 1) values) in
    let all : left_unresolved see p names (drop i values) ≡ unknown_ids p (see x) ++ rest =
    ap₂ (left_unresolved see p) parts (first_left values i x at.inside at.is) in
    sym (all ∙ ap (λ (u : List DeserError). u ++ rest) none) ∙ before

-- all are known when no value is left
pub all_known :
    {V : Type 0} (see : V → Value) (p : Pools) (names : List Field) (values : List V) (i : ℕ)
    (whole : List DeserError) →
    length values ≤ i → left_unresolved see p names (drop i values) ≡ whole → whole ≡ []
all_known see p names values i whole le before =
    sym before ∙ ap (left_unresolved see p names) (drop_all i values le) ∙ all_resolved p (names_of names)
