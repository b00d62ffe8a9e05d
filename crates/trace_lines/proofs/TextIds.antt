-- Lists of ids of texts, each in a tag and four bytes, as readers read them.
use Rattle.std.proofs.Common.{◌≡◌, ◌∙◌, ℕ, zero, suc, ◌+◌, ◌*◌, ◌/◌, ◌<◌, ◌≤◌, Bool, true, false, ◌&&◌, List, [], ◌∷◌}
use Rattle.std.proofs.Common.{◌++◌, length, take, drop, get_or, map as list_map, Option, Some, None, refl, sym, ap, ap₂}
use Rattle.std.proofs.Common.{arith, true≢false, length-append, length-drop, take-append-drop}
use Rattle.std.proofs.Math.Dec.{ltb}
use Rattle.std.proofs.lemmas.Bool.{le-ltb, eqb-true}
use Rattle.std.proofs.lemmas.List.{nil_from_length, take-append-le, drop-append-le}
use Rattle.std.specs.Int.{Width, byte_len, from_le_bytes, w16, w32, w64}
use Rattle.std.specs.List.{list_all}
use Rattle.std.specs.Simd.{first_chunks}
use Rattle.trace_values.specs.declared.types.field_type.FieldType.{FieldType}
use Rattle.trace_values.specs.declared.types.field_type.FieldType.TheVariants as types
use Rattle.trace_values.specs.declared.types.stop.Stop.{Stop}
use Rattle.trace_values.specs.declared.types.stop.Stop.TheVariants as stops
use Rattle.trace_values.specs.FieldTypes.{from_tag}
use Rattle.trace_values.specs.Limits.{most_items}
use Rattle.trace_values.specs.Reading.{◌>>=◌, as_value, byte_at, count_at, field_at, item_at, many_at, plain_at}
use Rattle.trace_values.specs.Reading.{times_at}
use Rattle.trace_values.specs.Reading.{value_at, values_to_items, word_at}
use Rattle.trace_values.specs.Values.{Value, borrowed, list}
use Rattle.trace_values.specs.Wanting.{StopsIf, field_wants, plain_wants, wants_at}
use Rattle.trace_values.proofs.OptionsAndBytes.{none_some}
use Rattle.trace_wire.specs.Layouts.{fixed_width}
use Rattle.trace_wire.specs.parts.codec.Layouts.{StandsFixed}
use Rattle.trace_lines.specs.parts.Listed.{is_text_id, text_id_value, text_ids_value}
use Rattle.std.proofs.lemmas.List.{take_all}
use Rattle.std.proofs.lemmas.List.Folds.{list_all_more}

-- an id that stands after its tag is read
one_id :
    (levels : ℕ) (s rest : List ℕ) → 5 ≤ length s → get_or (take 5 s) 0 0 ≡ 7
    → item_at (value_at borrowed (suc levels)) (s ++ rest) ≡ Some (text_id_value (take 5 s), drop 5 s ++ rest)
unfolding item_at value_at plain_at word_at from_tag
one_id levels [] rest long tag = absurd (omega (arith, long))
one_id levels (x ∷ s) rest long tag =
    let some : 4 ≤ length s = omega (arith, long) in
    let short : ltb (length (s ++ rest)) 4 ≡ false = le-ltb _ _ (omega (arith, some, length-append s rest)) in
    rw (tag, short, take-append-le 4 s rest some, drop-append-le 4 s rest some) refl

-- the first test of all
first_of : (a b : Bool) → (a && b) ≡ true → a ≡ true
first_of true b h = refl
first_of false b h = absurd cc

others_of : (a b : Bool) → (a && b) ≡ true → b ≡ true
others_of true b h = h
others_of false b h = absurd cc

-- so many ids are read, where each stands after its tag
pub ids_read :
    (levels n : ℕ) (front rest : List ℕ) → length front ≡ n * 5 → list_all is_text_id (first_chunks 5 n front) ≡ true
    → times_at (item_at (value_at borrowed (suc levels))) n (front ++ rest)
    ≡ Some (list_map text_id_value (first_chunks 5 n front), rest)
unfolding times_at
ids_read levels zero front rest len all = rw (nil_from_length front (omega (arith, len))) refl
ids_read levels (suc n) front rest len all =
    let test = list_all is_text_id (first_chunks 5 n (drop 5 front)) in
    let tag = eqb-true (get_or (take 5 front) 0 0) 7 (first_of (is_text_id (take 5 front)) test all) in
    rw (
      one_id levels front rest (omega (arith, len)) tag,
      ids_read levels n (drop 5 front) rest (omega (arith, len, length-drop 5 front))
          (others_of (is_text_id (take 5 front)) test all),
    ) refl

-- ---- the test of all

-- one item more was tested
pub item_tested :
    (items : List (List ℕ)) (i : ℕ) (d : List ℕ) {all one : Bool} → i < length items
    → all ≡ list_all is_text_id (take i items) → one ≡ is_text_id (get_or items i d)
    → (all && one) ≡ list_all is_text_id (take (i + 1) items)
item_tested items i d lt before this =
    ap₂ (λ (a b : Bool). a && b) before this ∙ sym (list_all_more is_text_id items i d lt)

-- all items were tested
pub items_tested :
    (items : List (List ℕ)) (i : ℕ) {all : Bool} → length items ≤ i → all ≡ list_all is_text_id (take i items)
    → all ≡ list_all is_text_id items
items_tested items i le before = before ∙ ap (list_all is_text_id) (take_all i items le)

-- ---- the list

-- a list of so many ids is read, where they stand after its count
pub ids_listed :
    (bytes : List ℕ) (count : ℕ) {rest front after : List ℕ} (items : List (List ℕ))
    → count_at most_items bytes ≡ Some (count, rest) → front ≡ take (count * 5) rest → after ≡ drop (count * 5) rest
    → length front ≡ count * 5 → items ≡ first_chunks 5 (length front / 5) front
    → list_all is_text_id items ≡ true
    → field_at borrowed types.DynamicList bytes ≡ Some (text_ids_value items, after)
unfolding field_at value_at plain_at many_at
ids_listed bytes count {rest} {front} {after} items counted front_is after_is len items_are all =
    let k : length front / 5 ≡ count = omega (arith, len) in
    let chunks : items ≡ first_chunks 5 count front = items_are ∙ ap (λ (m : ℕ). first_chunks 5 m front) k in
    let parts : front ++ after ≡ rest = ap (λ (u : List ℕ). u ++ after) front_is
    ∙ ap (λ (u : List ℕ). take (count * 5) rest ++ u) after_is ∙ take-append-drop (count * 5) rest in
    let one : List ℕ → Option (Value × List ℕ) = item_at (value_at borrowed 32) in
    let read : times_at one count rest ≡ Some (list_map text_id_value items, after) =
    ap (λ (u : List ℕ). times_at one count u) (sym parts)
    ∙ ids_read 31 count front after len (ap (list_all is_text_id) (sym chunks) ∙ all)
    ∙ ap (λ (xs : List (List ℕ)). Some (list_map text_id_value xs, after)) (sym chunks) in
    ap (λ (o : Option (ℕ × List ℕ)). as_value (λ vs. list (values_to_items vs)) (o >>= λ n. times_at one n.0 n.1))
    counted
    ∙ ap (λ (o : Option (List Value × List ℕ)). as_value (λ vs. list (values_to_items vs)) o) read

-- ---- fields of fixed width

word_reads :
    (w : Width) (f : ℕ → Value) (s : List ℕ) → byte_len w ≤ length s → as_value f (word_at w s) ≡ None → ⊥
unfolding word_at
word_reads w f s long none =
    let short : ltb (length s) (byte_len w) ≡ false = le-ltb _ _ long in
    none_some (f (from_le_bytes w (take (byte_len w) s)), drop (byte_len w) s) (sym none ∙ rw short refl)

byte_reads : (f : ℕ → Value) (s : List ℕ) → 1 ≤ length s → as_value f (byte_at s) ≡ None → ⊥
byte_reads f [] long none = absurd (omega (arith, long))
byte_reads f (x ∷ s) long none = none_some (f x, s) (sym none)

-- where so many bytes stand as a field has, it is read, and wants no memory
pub fixed_reads :
    (t : FieldType) (s : List ℕ) (e : Stop) → StandsFixed (fixed_width t) s
    → StopsIf (field_wants borrowed t s) e (field_at borrowed t s) → ⊥
unfolding field_at value_at plain_at field_wants wants_at plain_wants
fixed_reads types.Bool s stops.Unread long none = byte_reads _ s long none
fixed_reads types.U8 s stops.Unread long none = byte_reads _ s long none
fixed_reads types.U16 s stops.Unread long none = word_reads w16 _ s long none
fixed_reads types.U32 s stops.Unread long none = word_reads w32 _ s long none
fixed_reads types.PooledString s stops.Unread long none = word_reads w32 _ s long none
fixed_reads types.PooledStackFrames s stops.Unread long none = word_reads w32 _ s long none
fixed_reads types.I64 s stops.Unread long none = word_reads w64 _ s long none
fixed_reads types.F64 s stops.Unread long none = word_reads w64 _ s long none
fixed_reads types.Bool s stops.Memory long wants = absurd (true≢false (sym wants))
fixed_reads types.U8 s stops.Memory long wants = absurd (true≢false (sym wants))
fixed_reads types.U16 s stops.Memory long wants = absurd (true≢false (sym wants))
fixed_reads types.U32 s stops.Memory long wants = absurd (true≢false (sym wants))
fixed_reads types.PooledString s stops.Memory long wants = absurd (true≢false (sym wants))
fixed_reads types.PooledStackFrames s stops.Memory long wants = absurd (true≢false (sym wants))
fixed_reads types.I64 s stops.Memory long wants = absurd (true≢false (sym wants))
fixed_reads types.F64 s stops.Memory long wants = absurd (true≢false (sym wants))
fixed_reads _ s e long stop = absurd long
