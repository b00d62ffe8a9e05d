-- Items of lists and pairs of maps that were converted, one after another.
use Rattle.std.proofs.Common.{◌≡◌, ◌⊎◌, ℕ, ◌+◌, ◌<◌, List, [], ◌∷◌, ◌++◌, length, take, drop, get_or}
use Rattle.std.proofs.Common.{map as list_map, inl, inr, refl, sym, ap, subst, ◌∙◌}
use Rattle.std.proofs.lemmas.List.{map-append, take-append-drop, drop_more, take_more}
use Rattle.trace_values.specs.Sending.{Account}
use Rattle.trace_values.specs.Reading.{values_to_items, values_to_pairs}
use Rattle.trace_values.specs.Refs.{ref_view, ref_views, ref_pair_views}
use Rattle.trace_values.specs.Values.{Value, map}
use Rattle.trace_values.specs.ValueViews.{view, views, pair_views}
use Rattle.trace_values.specs.declared.types.borrowed.DynamicMapRef.{DynamicMapRef, out-DynamicMapRef}
use Rattle.trace_values.specs.declared.types.borrowed.FieldValueRef.{FieldValueRef}
use Rattle.trace_values.specs.declared.types.borrowed.FieldValueRef.TheVariants as refs
use Rattle.trace_values.specs.declared.types.field_value.FieldValue.{FieldValue}
use Rattle.trace_values.proofs.ListViews.{view_map_ref}
use Rattle.trace_wire.specs.Runs.{Pools}
use Rattle.trace_writer.specs.State.{EncoderView}
use Rattle.trace_converter.specs.declared.converter.ConvertError.{ConvertError}
use Rattle.trace_converter.specs.Conversions.{ConvertsValue, ConvertsItems, ConvertsPairs}
use Rattle.trace_converter.specs.Conversions.{IsWant, RefusesValue, RefusesItem, RefusesPair}

-- ---- one more, or the first that is refused

-- items, and one more
items_more :
    {W : Type 0} (told : W → Account) (p : Pools) (before : List Value) (v : Value) (later : List Value) (w : Value)
    (old mid new : EncoderView W) → ConvertsItems told p (values_to_items before) old (values_to_items later) mid
    → ConvertsValue told p v mid w new
    → ConvertsItems told p (values_to_items (before ++ v ∷ [])) old (values_to_items (later ++ w ∷ [])) new
items_more {W} told p [] v [] w old mid new h one =
    (new, subst (λ (x : EncoderView W). ConvertsValue told p v x w new) h one, refl)
items_more told p (a ∷ before) v (b ∷ later) w old mid new (m, first, rest) one =
    (m, first, (items_more told p before v later w) m mid new rest one)
items_more told p [] v (b ∷ later) w old mid new h one = absurd h
items_more told p (a ∷ before) v [] w old mid new h one = absurd h

-- items, and then one that is refused
items_refused :
    {W : Type 0} (told : W → Account) (p : Pools) (before after later : List Value) (old mid new : EncoderView W)
    (e : ConvertError) → ConvertsItems told p (values_to_items before) old (values_to_items later) mid
    → RefusesItem told p (values_to_items after) mid e new
    → RefusesItem told p (values_to_items (before ++ after)) old e new
items_refused {W} told p [] after [] old mid new e h one =
    subst (λ (x : EncoderView W). RefusesItem told p (values_to_items after) x e new) h one
items_refused told p (a ∷ before) after (b ∷ later) old mid new e (m, first, rest) one =
    inr (inr (b, m, first, (items_refused told p before after later) m mid new e rest one))
items_refused told p [] after (b ∷ later) old mid new e h one = absurd h
items_refused told p (a ∷ before) after [] old mid new e h one = absurd h

-- pairs, and one more
pairs_more :
    {W : Type 0} (told : W → Account) (p : Pools) (before : List (Value × Value)) (x : Value × Value)
    (later : List (Value × Value)) (w : Value × Value) (old mid first new : EncoderView W)
    → ConvertsPairs told p (values_to_pairs before) old (values_to_pairs later) mid
    → ConvertsValue told p x.0 mid w.0 first → ConvertsValue told p x.1 first w.1 new
    → ConvertsPairs told p (values_to_pairs (before ++ x ∷ [])) old (values_to_pairs (later ++ w ∷ [])) new
pairs_more {W} told p [] x [] w old mid first new h key one =
    (first, new, subst (λ (y : EncoderView W). ConvertsValue told p x.0 y w.0 first) h key, one, refl)
pairs_more told p (a ∷ before) x (b ∷ later) w old mid first new (f, m, k, v, rest) key one =
    (f, m, k, v, (pairs_more told p before x later w) m mid first new rest key one)
pairs_more told p [] x (b ∷ later) w old mid first new h key one = absurd h
pairs_more told p (a ∷ before) x [] w old mid first new h key one = absurd h

-- pairs, and then one that is refused
pairs_refused :
    {W : Type 0} (told : W → Account) (p : Pools) (before after later : List (Value × Value))
    (old mid new : EncoderView W) (e : ConvertError)
    → ConvertsPairs told p (values_to_pairs before) old (values_to_pairs later) mid
    → RefusesPair told p (values_to_pairs after) mid e new
    → RefusesPair told p (values_to_pairs (before ++ after)) old e new
pairs_refused {W} told p [] after [] old mid new e h one =
    subst (λ (x : EncoderView W). RefusesPair told p (values_to_pairs after) x e new) h one
pairs_refused told p (a ∷ before) after (b ∷ later) old mid new e (f, m, k, v, rest) one =
    inr (inr (b.0, f, k, inr (b.1, m, v, (pairs_refused told p before after later) m mid new e rest one)))
pairs_refused told p [] after (b ∷ later) old mid new e h one = absurd h
pairs_refused told p (a ∷ before) after [] old mid new e h one = absurd h

-- ---- at a place of a list

-- the elements up to a place and the one there
taken : {A : Type 0} (xs : List A) (i : ℕ) (x : A) → i < length xs → x ≡ get_or xs i x
    → take (i + 1) xs ≡ take i xs ++ x ∷ []
taken {A} xs i x inside is = take_more xs i x inside ∙ ap (λ (y : A). take i xs ++ y ∷ []) (sym is)

-- those before a place, the one there, and those after it
parted : {A B : Type 0} (f : A → B) (xs : List A) (i : ℕ) (x : A) → i < length xs → x ≡ get_or xs i x
    → list_map f xs ≡ list_map f (take i xs) ++ f x ∷ list_map f (drop (i + 1) xs)
parted {A} {B} f xs i x inside is =
    ap (list_map f) (sym (take-append-drop i xs)) ∙ map-append f (take i xs) (drop i xs)
    ∙ ap (λ (ys : List A). list_map f (take i xs) ++ list_map f ys) (drop_more xs i x inside)
    ∙ ap (λ (y : A). list_map f (take i xs) ++ f y ∷ list_map f (drop (i + 1) xs)) (sym is)

-- so many items were converted
abbrev pub ConvertsFirstItems : {W : Type 0} → (W → Account) → Pools → List FieldValueRef → ℕ → EncoderView W
    → List FieldValue → EncoderView W → Type 0
ConvertsFirstItems told p xs i old values new =
    ConvertsItems told p (values_to_items (ref_views (take i xs))) old (values_to_items (views values)) new

-- one item more was converted
pub item_converted :
    {W : Type 0} (told : W → Account) (p : Pools) (xs : List FieldValueRef) (i : ℕ) (x : FieldValueRef)
    (values : List FieldValue) (w : FieldValue) (room more : List FieldValue) (old mid new : EncoderView W)
    → i < length xs → x ≡ get_or xs i x → more ≡ room ++ w ∷ [] → room ≡ values
    → ConvertsFirstItems told p xs i old values mid
    → ConvertsValue told p (ref_view x) mid (view w) new → ConvertsFirstItems told p xs (i + 1) old more new
item_converted {W} told p xs i x values w room more old mid new inside is pushed kept h one =
    subst (λ (ws : List Value).
    ConvertsItems told p (values_to_items (ref_views (take (i + 1) xs))) old (values_to_items ws) new)
    (sym (ap views (pushed ∙ ap (λ (vs : List FieldValue). vs ++ w ∷ []) kept) ∙ map-append view values (w ∷ [])))
    (subst (λ (vs : List Value).
    ConvertsItems told p (values_to_items vs) old (values_to_items (views values ++ view w ∷ [])) new)
    (sym (ap ref_views (taken xs i x inside is) ∙ map-append ref_view (take i xs) (x ∷ [])))
    ((items_more told p (ref_views (take i xs)) (ref_view x) (views values) (view w)) old mid new h one))

-- where the next item was refused, or there was no room for it, the items were
pub item_stops :
    {W : Type 0} (told : W → Account) (p : Pools) (xs : List FieldValueRef) (i : ℕ) (x : FieldValueRef)
    (values : List FieldValue) (old mid new : EncoderView W) (e : ConvertError) → i < length xs → x ≡ get_or xs i x
    → ConvertsFirstItems told p xs i old values mid
    → (IsWant e × (new ≡ mid)) ⊎ RefusesValue told p (ref_view x) mid e new
    → RefusesItem told p (values_to_items (ref_views xs)) old e new
item_stops {W} told p xs i x values old mid new e inside is h stops =
    subst (λ (vs : List Value). RefusesItem told p (values_to_items vs) old e new)
    (sym (parted ref_view xs i x inside is))
    ((items_refused told p (ref_views (take i xs)) (ref_view x ∷ ref_views (drop (i + 1) xs)) (views values))
    old mid new e h (next stops))
  where
    next : (IsWant e × (new ≡ mid)) ⊎ RefusesValue told p (ref_view x) mid e new
        → RefusesItem told p (values_to_items (ref_view x ∷ ref_views (drop (i + 1) xs))) mid e new
    next (inl want) = inl want
    next (inr refused) = inr (inl refused)

-- so many pairs were converted
abbrev pub ConvertsFirstPairs : {W : Type 0} → (W → Account) → Pools → List (FieldValueRef × FieldValueRef) → ℕ
    → EncoderView W → List (FieldValue × FieldValue) → EncoderView W → Type 0
ConvertsFirstPairs told p xs i old values new =
    ConvertsPairs told p (values_to_pairs (ref_pair_views (take i xs))) old (values_to_pairs (pair_views values)) new

abbrev ref_pair_view : FieldValueRef × FieldValueRef → Value × Value
ref_pair_view x = (ref_view x.0, ref_view x.1)

abbrev pair_view : FieldValue × FieldValue → Value × Value
pair_view x = (view x.0, view x.1)

-- one pair more was converted
pub pair_converted :
    {W : Type 0} (told : W → Account) (p : Pools) (xs : List (FieldValueRef × FieldValueRef)) (i : ℕ)
    (x : FieldValueRef × FieldValueRef) (values : List (FieldValue × FieldValue)) (w : FieldValue × FieldValue)
    (room more : List (FieldValue × FieldValue)) (old mid first new : EncoderView W) → i < length xs
    → x ≡ get_or xs i x → more ≡ room ++ w ∷ [] → room ≡ values → ConvertsFirstPairs told p xs i old values mid
    → ConvertsValue told p (ref_view x.0) mid (view w.0) first
    → ConvertsValue told p (ref_view x.1) first (view w.1) new
    → ConvertsFirstPairs told p xs (i + 1) old more new
pair_converted {W} told p xs i x values w room more old mid first new inside is pushed kept h key one =
    subst (λ (ws : List (Value × Value)).
    ConvertsPairs told p (values_to_pairs (ref_pair_views (take (i + 1) xs))) old (values_to_pairs ws) new)
    (sym (ap pair_views (pushed ∙ ap (λ (vs : List (FieldValue × FieldValue)). vs ++ w ∷ []) kept)
    ∙ map-append pair_view values (w ∷ [])))
    (subst (λ (vs : List (Value × Value)).
    ConvertsPairs told p (values_to_pairs vs) old (values_to_pairs (pair_views values ++ pair_view w ∷ [])) new)
    (sym (ap ref_pair_views (taken xs i x inside is) ∙ map-append ref_pair_view (take i xs) (x ∷ [])))
    ((pairs_more told p (ref_pair_views (take i xs)) (ref_pair_view x) (pair_views values) (pair_view w))
    old mid first new h key one))

-- why the next was not: there was no room for it, or its key was refused, or then its value
abbrev pub StopsPair : {W : Type 0} → (W → Account) → Pools → FieldValueRef × FieldValueRef → EncoderView W
    → ConvertError → EncoderView W → Type 0
StopsPair {W} told p x mid e new = (IsWant e × (new ≡ mid))
    ⊎ (RefusesValue told p (ref_view x.0) mid e new
    ⊎ ((v : Value) × (first : EncoderView W) × ConvertsValue told p (ref_view x.0) mid v first
    × RefusesValue told p (ref_view x.1) first e new))

-- where the next pair was not converted the pairs were refused
pub pair_stops :
    {W : Type 0} (told : W → Account) (p : Pools) (xs : List (FieldValueRef × FieldValueRef)) (i : ℕ)
    (x : FieldValueRef × FieldValueRef) (values : List (FieldValue × FieldValue)) (old mid new : EncoderView W)
    (e : ConvertError) → i < length xs → x ≡ get_or xs i x → ConvertsFirstPairs told p xs i old values mid
    → StopsPair told p x mid e new → RefusesPair told p (values_to_pairs (ref_pair_views xs)) old e new
pair_stops {W} told p xs i x values old mid new e inside is h stops =
    subst (λ (vs : List (Value × Value)). RefusesPair told p (values_to_pairs vs) old e new)
    (sym (parted ref_pair_view xs i x inside is))
    ((pairs_refused told p (ref_pair_views (take i xs)) (ref_pair_view x ∷ after) (pair_views values))
    old mid new e h (next stops))
  where
    after : List (Value × Value)
    after = ref_pair_views (drop (i + 1) xs)

    next : StopsPair told p x mid e new → RefusesPair told p (values_to_pairs (ref_pair_view x ∷ after)) mid e new
    next (inl want) = inl want
    next (inr (inl refused)) = inr (inl refused)
    next (inr (inr (v, first, key, refused))) = inr (inr (v, first, key, inl refused))

-- a map is refused where a pair of it is
pub map_refused :
    {W : Type 0} (told : W → Account) (p : Pools) (m : DynamicMapRef) (from : FieldValueRef)
    (xs : List (FieldValueRef × FieldValueRef)) (old new : EncoderView W) (e : ConvertError) → from ≡ refs.Map m
    → xs ≡ (out-DynamicMapRef m).0.items → RefusesPair told p (values_to_pairs (ref_pair_views xs)) old e new
    → RefusesValue told p (ref_view from) old e new
map_refused {W} told p m from xs old new e is parts h =
    subst (λ (u : Value). RefusesValue told p u old e new) (sym seen) h
  where
    seen : ref_view from ≡ map (values_to_pairs (ref_pair_views xs))
    seen = ap ref_view is ∙ view_map_ref m
        ∙ ap (λ (ys : List (FieldValueRef × FieldValueRef)). map (values_to_pairs (ref_pair_views ys))) (sym parts)
