-- Tables that grow still have what values name.
use Rattle.std.proofs.Common.{◌≡◌, ℕ, zero, suc, List, [], ◌∷◌, ◌++◌, Option, Some, None, is_some, sym, ap, subst, ◌∙◌}
use Rattle.std.proofs.Common.{append_assoc, append-nil, map as list_map}
use Rattle.std.proofs.lemmas.Bool.{false≢true}
use Rattle.std.specs.FinMap as finmap
use Rattle.std.specs.List.{AllZip}
use Rattle.std.specs.Prelude.{slice_get}
use Rattle.json.specs.Json.{Json}
use Rattle.trace_values.specs.AddressTexts.{address_text}
use Rattle.trace_values.specs.Values.{Value}
use Rattle.trace_values.specs.Values as values
use Rattle.trace_wire.specs.Runs.{Pools}
use Rattle.trace_page.specs.Counting.{PageEvent}
use Rattle.trace_page.specs.PageValues.{Tables, IsIndexOf, IsPooled, ArePairTexts, IsPageValue, ArePageItems}
use Rattle.trace_page.specs.PageValues.{ArePagePairs}
use Rattle.trace_page.specs.Pages.{AreEventValues, IsStack}
use Rattle.trace_page.specs.parts.Writing.{IsLonger, Grows}

-- ---- lists and tables

pub longer_refl : (xs : List (List ℕ)) → IsLonger xs xs
longer_refl xs = ([], sym (append-nil xs))

pub longer_trans : (a b c : List (List ℕ)) → IsLonger a b → IsLonger b c → IsLonger a c
longer_trans a b c h k =
    (h.0 ++ k.0, k.1 ∙ ap (λ (l : List (List ℕ)). l ++ k.0) h.1 ∙ append_assoc a h.0 k.0)

pub grows_refl : (t : Tables) → Grows t t
grows_refl t = record { strings = longer_refl t.strings; stacks = longer_refl t.stacks }

pub grows_trans : (a b c : Tables) → Grows a b → Grows b c → Grows a c
grows_trans a b c h k = record {
  strings = longer_trans a.strings b.strings c.strings h.strings k.strings;
  stacks = longer_trans a.stacks b.stacks c.stacks h.stacks k.stacks;
}

-- what stands at an index stands there still
pub still_at : {A : Type 0} (xs more : List A) (i : ℕ) (x : A) → slice_get xs i ≡ Some x →
    slice_get (xs ++ more) i ≡ Some x
still_at [] more i x e = absurd (false≢true (ap is_some e))
still_at (y ∷ ys) more zero x e = e
still_at (y ∷ ys) more (suc i) x e = still_at ys more i x e

-- an index is still one of the same
pub index_grows : (old new : List (List ℕ)) → IsLonger old new → (x : List ℕ) (j : Json) → IsIndexOf old x j →
    IsIndexOf new x j
index_grows old new l x j h = (
  h.0,
  subst (λ (xs : List (List ℕ)). slice_get xs h.0 ≡ Some x) (sym l.1) (still_at old l.0 h.0 x h.1),
  h.2,
)

-- ---- values

pooled_grows : (old new : List (List ℕ)) → IsLonger old new → (id : ℕ) (o : Option (List ℕ)) (j : Json) →
    IsPooled old id o j → IsPooled new id o j
pooled_grows old new l id (Some x) j h = index_grows old new l x j h
pooled_grows old new l id None j h = h

-- keys and values of a map of texts stand as they stood
pub pair_texts_grow : (old new : List (List ℕ)) → IsLonger old new → (ps : List (List ℕ × List ℕ)) (js : List Json) →
    ArePairTexts old ps js → ArePairTexts new ps js
pair_texts_grow old new l [] js h = h
pair_texts_grow old new l (p ∷ ps) js h = (
  h.0,
  h.1,
  h.2,
  h.3,
  index_grows old new l _ h.0 h.4,
  index_grows old new l _ h.1 h.5,
  pair_texts_grow old new l ps h.2 h.6,
)

mutual
  -- a value is still what it was
  pub value_grows : (t u : Tables) → Grows t u → (p : Pools) (v : Value) (j : Json) → IsPageValue t p v j →
      IsPageValue u p v j
  value_grows t u g p (values.integer z) j h = h
  value_grows t u g p (values.float n) j h = h
  value_grows t u g p (values.boolean b) j h = h
  value_grows t u g p (values.text s) j h = index_grows t.strings u.strings g.strings s j h
  value_grows t u g p (values.bytes s) j h = index_grows t.strings u.strings g.strings _ j h
  value_grows t u g p (values.pooled_stack id) j h =
      pooled_grows t.stacks u.stacks g.stacks id (finmap.get p.stacks id) j h
  value_grows t u g p (values.pooled_text id) j h =
      pooled_grows t.strings u.strings g.strings id (finmap.get p.strings id) j h
  value_grows t u g p (values.stack xs) j h = index_grows t.stacks u.stacks g.stacks xs j h
  value_grows t u g p (values.number n) j h = h
  value_grows t u g p (values.texts ps) j h =
      (h.0, pair_texts_grow t.strings u.strings g.strings ps h.0 h.1, h.2)
  value_grows t u g p (values.list vs) j h = (h.0, items_grow t u g p vs h.0 h.1, h.2)
  value_grows t u g p (values.map ps) j h = (h.0, pairs_grow t u g p ps h.0 h.1, h.2)
  value_grows t u g p values.absent j h = h

  -- and so are the items of a list
  pub items_grow : (t u : Tables) → Grows t u → (p : Pools) (vs : values.Items) (js : List Json) →
      ArePageItems t p vs js → ArePageItems u p vs js
  items_grow t u g p values.no_items js h = h
  items_grow t u g p (values.item v vs) js h =
      (h.0, h.1, h.2, value_grows t u g p v h.0 h.3, items_grow t u g p vs h.1 h.4)

  -- and the pairs of a map
  pub pairs_grow : (t u : Tables) → Grows t u → (p : Pools) (ps : values.Pairs) (js : List Json) →
      ArePagePairs t p ps js → ArePagePairs u p ps js
  pairs_grow t u g p values.no_pairs js h = h
  pairs_grow t u g p (values.pair x y ps) js h = (
    h.0,
    h.1,
    h.2,
    h.3,
    value_grows t u g p x h.0 h.4,
    value_grows t u g p y h.1 h.5,
    pairs_grow t u g p ps h.2 h.6,
  )

-- ---- lists of them

-- of each pair of things something else is so, where that follows
pub zip_weaker : {A B : Type 0} (R S : A → B → Type 0) → ((x : A) (y : B) → R x y → S x y) → (xs : List A)
    (ys : List B) → AllZip R xs ys → AllZip S xs ys
zip_weaker R S f [] [] h = tt
zip_weaker R S f [] (y ∷ ys) h = h
zip_weaker R S f (x ∷ xs) [] h = h
zip_weaker R S f (x ∷ xs) (y ∷ ys) h = (f x y h.0, zip_weaker R S f xs ys h.1)

-- one pair of things more
pub zip_push : {A B : Type 0} (R : A → B → Type 0) (xs : List A) (ys : List B) (x : A) (y : B) → AllZip R xs ys →
    R x y → AllZip R (xs ++ x ∷ []) (ys ++ y ∷ [])
zip_push R [] [] x y h r = (r, tt)
zip_push R [] (z ∷ ys) x y h r = absurd h
zip_push R (z ∷ xs) [] x y h r = absurd h
zip_push R (z ∷ xs) (w ∷ ys) x y h r = (h.0, zip_push R xs ys x y h.1 r)

-- a stack is still what it was
pub stack_grows : (old new : List (List ℕ)) → IsLonger old new → (xs : List ℕ) (j : Json) → IsStack old xs j →
    IsStack new xs j
stack_grows old new l xs j h =
    (h.0, zip_weaker (IsIndexOf old) (IsIndexOf new) (index_grows old new l) (list_map address_text xs) h.0 h.1, h.2)

-- the values of events are still what they were
pub events_grow : (t u : Tables) → Grows t u → (es : List PageEvent) (js : List Json) → AreEventValues t es js →
    AreEventValues u es js
events_grow t u g [] js h = h
events_grow t u g (e ∷ es) js h = (
  h.0,
  h.1,
  h.2,
  zip_weaker (IsPageValue t e.shown.pools) (IsPageValue u e.shown.pools) (value_grows t u g e.shown.pools)
      e.shown.values h.0 h.3,
  events_grow t u g es h.1 h.4,
)
