-- Parts of lines that are appended as they are read from bytes.
use Rattle.std.proofs.Common.{◌≡◌, ◌∙◌, ℕ, suc, ◌+◌, ◌-◌, ◌<◌, ◌≤◌, List, [], ◌∷◌, ◌++◌, drop, Option, Some}
use Rattle.std.proofs.Common.{Result, Ok, Err, Bool, true, false, append-nil, codes, map as list_map}
use Rattle.std.proofs.Common.{refl, sym, ap, subst, add-one, arith, get_or, length, take}
use Rattle.std.proofs.lemmas.Bool.Decides.{nat_tests}
use Rattle.std.proofs.lemmas.List.{take_rest}
use Rattle.std.specs.Borrow.{Bor}
use Rattle.std.specs.List.{flat_map, join_by}
use Rattle.std.specs.Prelude.{◌==◌}
use Rattle.trace_values.specs.declared.types.field_type.FieldType.{FieldType}
use Rattle.trace_values.specs.declared.types.field_type.FieldType.TheVariants as types
use Rattle.trace_values.specs.FieldTypes.{from_tag, inner, is_optional}
use Rattle.trace_values.specs.Reading.{◌>>=◌, InnerReading, as_value, byte_at, count_at, item_at, many_at, pair_at}
use Rattle.trace_values.specs.Reading.{plain_at, times_at, field_at, field_by, fields_at, value_at, text_pair_at}
use Rattle.trace_values.specs.Reading.{counted_at}
use Rattle.trace_values.specs.Reading.{values_to_items, values_to_pairs}
use Rattle.trace_values.specs.Limits.{most_items}
use Rattle.trace_values.specs.Values.{Value, owned_reader, absent, list, map, texts, AreFields, IsValue}
use Rattle.trace_values.proofs.OptionsAndBytes.{as_value_some, bind_some, none_some, some_is}
use Rattle.trace_values.proofs.FieldsAsRead.{fields_again}
use Rattle.trace_values.proofs.ValuesAsRead.{value_again}
use Rattle.trace_lines.specs.Lines.{pair_text, spaced_value, value_text}
use Rattle.trace_lines.specs.parts.Lines.{comma_before}
use Rattle.trace_lines.specs.parts.SpelledLines.{PutsRead, pair_value_text}
use Rattle.trace_lines.proofs.GrowingParts.{Growth, Empty, Joins, Stops, IsLeft, all_left, part_put, part_not_put}
use Rattle.trace_lines.proofs.GrowingParts.{none_left}
use Rattle.trace_lines.proofs.JoinedLists.{joined_all, joined_left, left_later}
use Rattle.trace_lines.proofs.ValueTexts.{text_of_list, text_of_map}

-- ---- answers

-- what is read, as it is told
abbrev Read : Type 0 → Type 0
Read A = Option (A × List ℕ)

-- all of it was appended, whatever it is
pub puts_all :
    {S E A : Type 0} {grows : Growth S E} {text : A → List ℕ} (o : Read A) {s t : S} (rest : Bor (List ℕ))
    → ((x : A × List ℕ) → o ≡ Some x → grows s (text x.0) (Ok tt) t × (rest.now ≡ x.1))
    → PutsRead grows text o s t (Ok rest)
puts_all o rest h = record { puts = h }

-- or it was not
pub puts_not :
    {S E A : Type 0} {grows : Growth S E} {text : A → List ℕ} (o : Read A) {s t : S} (e : E)
    → ((x : A × List ℕ) → o ≡ Some x → grows s (text x.0) (Err e) t) → PutsRead grows text o s t (Err e)
puts_not o e h = record { puts = h }

-- where a growth was refused no text was appended
pub puts_refused :
    {S E A : Type 0} {grows : Growth S E} {text : A → List ℕ} (o : Read A) {s t : S} (e : E)
    → ((put : List ℕ) → grows s put (Err e) t) → PutsRead grows text o s t (Err e)
puts_refused {text = text} o e h = puts_not o e (λ x is. h (text x.0))

-- what an answer says of what is read
pub was_put :
    {S E A : Type 0} {grows : Growth S E} {text : A → List ℕ} (o : Read A) {s t : S} (rest : Bor (List ℕ))
    {x : A × List ℕ} → PutsRead grows text o s t (Ok rest) → o ≡ Some x
    → grows s (text x.0) (Ok tt) t × (rest.now ≡ x.1)
was_put o rest {x = x} p is = p.puts x is

-- or that it was not appended
pub was_not_put :
    {S E A : Type 0} {grows : Growth S E} {text : A → List ℕ} (o : Read A) {s t : S} (e : E) {x : A × List ℕ}
    → PutsRead grows text o s t (Err e) → o ≡ Some x → grows s (text x.0) (Err e) t
was_not_put o e {x = x} p is = p.puts x is

-- what is said of one reading is said of another that is the same
pub puts_same :
    {S E A : Type 0} {grows : Growth S E} {text : A → List ℕ} {o p : Read A} {s t : S}
    {result : Result (Bor (List ℕ)) E} → o ≡ p → PutsRead grows text p s t result → PutsRead grows text o s t result
puts_same {grows = grows} {text} {s = s} {t} {result} is puts =
    subst (λ (x : Read _). PutsRead grows text x s t result) (sym is) puts

-- what was read was appended
pub read_put :
    {S E A : Type 0} {grows : Growth S E} {text : A → List ℕ} (v : A) (rest : Bor (List ℕ)) {s t : S}
    → grows s (text v) (Ok tt) t → PutsRead grows text (Some (v, rest.now)) s t (Ok rest)
read_put {grows = grows} {text} v rest {s} {t} put =
    puts_all (Some (v, rest.now)) rest (λ x is.
    subst (λ (y : _ × List ℕ). grows s (text y.0) (Ok tt) t × (rest.now ≡ y.1)) (some_is (v, rest.now) x is)
    (put, refl))

-- or it was not
pub read_not_put :
    {S E A : Type 0} {grows : Growth S E} {text : A → List ℕ} (v : A) (rest : List ℕ) {s t : S} (e : E)
    → grows s (text v) (Err e) t → PutsRead grows text (Some (v, rest)) s t (Err e)
read_not_put {grows = grows} {text} v rest {s} {t} e put =
    puts_not (Some (v, rest)) e (λ x is.
    subst (λ (y : _ × List ℕ). grows s (text y.0) (Err e) t) (some_is (v, rest) x is) put)

-- the first byte, and what stands after it
pub front_byte : (bytes : List ℕ) → 1 ≤ length bytes
    → bytes ≡ get_or bytes 0 0 ∷ take (length bytes - 1) (drop 1 bytes)
front_byte [] some = absurd (omega (arith, some))
front_byte (x ∷ s) some = ap (λ (y : List ℕ). x ∷ y) (sym (take_rest (x ∷ s) 1))

-- ---- a value by its type

-- a type that is no list and no map is read alike, however items are
plain_alike :
    (f h : InnerReading) (t : FieldType) (s : List ℕ) → (t ≡ types.DynamicList → ⊥) → (t ≡ types.DynamicMap → ⊥)
    → plain_at owned_reader f t s ≡ plain_at owned_reader h t s
unfolding plain_at
plain_alike f h types.I64 s no_list no_map = refl
plain_alike f h types.F64 s no_list no_map = refl
plain_alike f h types.Bool s no_list no_map = refl
plain_alike f h types.String s no_list no_map = refl
plain_alike f h types.Bytes s no_list no_map = refl
plain_alike f h types.PooledStackFrames s no_list no_map = refl
plain_alike f h types.PooledString s no_list no_map = refl
plain_alike f h types.StackFrames s no_list no_map = refl
plain_alike f h types.Varint s no_list no_map = refl
plain_alike f h types.StringMap s no_list no_map = refl
plain_alike f h types.U8 s no_list no_map = refl
plain_alike f h types.U16 s no_list no_map = refl
plain_alike f h types.U32 s no_list no_map = refl
plain_alike f h types.DynamicList s no_list no_map = absurd (no_list refl)
plain_alike f h types.DynamicMap s no_list no_map = absurd (no_map refl)
plain_alike f h types.OptionalI64 s no_list no_map = refl
plain_alike f h types.OptionalF64 s no_list no_map = refl
plain_alike f h types.OptionalBool s no_list no_map = refl
plain_alike f h types.OptionalString s no_list no_map = refl
plain_alike f h types.OptionalBytes s no_list no_map = refl
plain_alike f h types.OptionalPooledStackFrames s no_list no_map = refl
plain_alike f h types.OptionalPooledString s no_list no_map = refl
plain_alike f h types.OptionalStackFrames s no_list no_map = refl
plain_alike f h types.OptionalVarint s no_list no_map = refl
plain_alike f h types.OptionalStringMap s no_list no_map = refl
plain_alike f h types.OptionalU8 s no_list no_map = refl
plain_alike f h types.OptionalU16 s no_list no_map = refl
plain_alike f h types.OptionalU32 s no_list no_map = refl
plain_alike f h types.OptionalDynamicList s no_list no_map = refl
plain_alike f h types.OptionalDynamicMap s no_list no_map = refl

-- a value is read by its plain type
pub value_by :
    (levels m : ℕ) (t u : FieldType) (s : List ℕ) → levels ≡ suc m → inner t ≡ u
    → value_at owned_reader levels t s ≡ plain_at owned_reader (value_at owned_reader m) u s
unfolding value_at
value_by levels m t u s more is =
    ap (λ (n : ℕ). value_at owned_reader n t s) more
    ∙ ap (λ (x : FieldType). plain_at owned_reader (value_at owned_reader m) x s) is

-- an item is read by the tag before it
pub item_by :
    (read : InnerReading) (bytes : List ℕ) (x : ℕ) (s : List ℕ) (t : FieldType) → bytes ≡ x ∷ s → from_tag x ≡ Some t
    → item_at read bytes ≡ read t s
unfolding item_at
item_by read bytes x s t is tagged = ap (item_at read) is ∙ rw tagged refl

-- a value that was decoded is what is read
pub decoded_read :
    (t : FieldType) (bytes rest : List ℕ) (v : Value)
    → (front : List ℕ) × (bytes ≡ front ++ rest) × IsValue owned_reader t 0 front v
    → value_at owned_reader 33 t bytes ≡ Some (v, rest)
decoded_read t bytes rest v (front, is, spelled) =
    ap (value_at owned_reader 33 t) is ∙ value_again owned_reader v t 0 33 front rest refl spelled

-- ---- a pair

-- a pair is two items
pair_parts :
    (read : InnerReading) (s : List ℕ) (z : (Value × Value) × List ℕ) → pair_at read s ≡ Some z
    → (x : Value × List ℕ) × (item_at read s ≡ Some x) × (y : Value × List ℕ) × (item_at read x.1 ≡ Some y)
    × (((x.0, y.0), y.1) ≡ z)
unfolding pair_at
pair_parts read s z e =
    let a = bind_some (item_at read s) (λ x. item_at read x.1 >>= λ y. Some ((x.0, y.0), y.1)) z e in
    let b = bind_some (item_at read a.0.1) (λ y. Some ((a.0.0, y.0), y.1)) z a.2 in
    (a.0, a.1, b.0, b.1, some_is ((a.0.0, b.0.0), b.0.1) z b.2)

-- ---- items one after another

-- what is left to be read of so many, and of their text
pub record ItemsLeft {S E A : Type 0} (grows : Growth S E) (one : List ℕ → Option (A × List ℕ)) (shown : A → List ℕ)
    (n : ℕ) (s : S) (bytes : List ℕ) (i : ℕ) (rest : List ℕ) (m : S) : Type 0 where
  pub left : (x : List A × List ℕ) → times_at one n bytes ≡ Some x → (others : List A)
      × (times_at one (n - i) rest ≡ Some (others, x.1))
      × IsLeft grows s (join_by shown (codes ",") x.0) m (joined_left shown i others)

-- before the first
pub items_begin :
    {S E A : Type 0} (grows : Growth S E) (one : List ℕ → Option (A × List ℕ)) (shown : A → List ℕ) (n : ℕ) (s : S)
    (bytes : List ℕ) → ItemsLeft grows one shown n s bytes 0 bytes s
items_begin grows one shown n s bytes = record {
  left = λ x e.
      (x.0, ap (λ (k : ℕ). times_at one k bytes) (omega arith) ∙ e, all_left grows s (joined_all shown x.0));
}

-- the first of those that are left
next_item :
    {A : Type 0} (one : List ℕ → Option (A × List ℕ)) (n i : ℕ) (rest : List ℕ) (others : List A) (tail : List ℕ)
    → i < n → times_at one (n - i) rest ≡ Some (others, tail)
    → (v : A × List ℕ) × (one rest ≡ Some v) × (more : List A) × (times_at one (n - (i + 1)) v.1 ≡ Some (more, tail))
    × (v.0 ∷ more ≡ others)
unfolding times_at
next_item {A} one n i rest others tail lt e =
    let k : n - i ≡ suc (n - (i + 1)) = omega arith in
    let first : times_at one (suc (n - (i + 1))) rest ≡ Some (others, tail) =
    ap (λ (m : ℕ). times_at one m rest) (sym k) ∙ e in
    let a = bind_some (one rest) (λ v. times_at one (n - (i + 1)) v.1 >>= λ more. Some (v.0 ∷ more.0, more.1))
    (others, tail) first in
    let b = bind_some (times_at one (n - (i + 1)) a.0.1) (λ more. Some (a.0.0 ∷ more.0, more.1)) (others, tail) a.2 in
    let same = some_is (a.0.0 ∷ b.0.0, b.0.1) (others, tail) b.2 in (
      a.0,
      a.1,
      b.0.0,
      b.1 ∙ ap (λ (y : List ℕ). Some (b.0.0, y)) (ap (λ (y : List A × List ℕ). y.1) same),
      ap (λ (y : List A × List ℕ). y.0) same,
    )

left_first :
    {A : Type 0} (shown : A → List ℕ) (i : ℕ) (x : A) (xs : List A)
    → joined_left shown i (x ∷ xs) ≡ (comma_before i ++ shown x) ++ joined_left shown (i + 1) xs
left_first shown i x xs =
    ap (λ (t : List ℕ). (comma_before i ++ shown x) ++ t)
    (sym (ap (λ (k : ℕ). joined_left shown k xs) (add-one i) ∙ left_later shown i xs))

-- one more is appended
pub items_go_on :
    {S E A : Type 0} {grows : Growth S E} (one : List ℕ → Option (A × List ℕ)) {shown : A → List ℕ} {n i : ℕ} {s : S}
    {bytes : List ℕ} {rest : List ℕ} {after : Bor (List ℕ)} {m k t : S} → Joins grows → i < n
    → ItemsLeft grows one shown n s bytes i rest m → grows m (comma_before i) (Ok tt) k
    → PutsRead grows shown (one rest) k t (Ok after) → ItemsLeft grows one shown n s bytes (i + 1) after.now t
items_go_on one {shown} {n} {i} {rest = rest} {after} {m} {k} {t} joins lt before comma put = record {
  left = λ x e.
      let (others, read, is_left) = before.left x e in
      let (v, first, more, then, same) = next_item one n i rest others x.1 lt read in
      let p = was_put (one rest) after put first in (
        more,
        ap (λ (y : List ℕ). times_at one (n - (i + 1)) y) p.1 ∙ then,
        part_put t (comma_before i ++ shown v.0) (joined_left shown (i + 1) more) joins is_left
            (ap (joined_left shown i) (sym same) ∙ left_first shown i v.0 more)
            (joins m k t (comma_before i) (shown v.0) (Ok tt) comma p.0),
      );
}

-- its comma is not appended
pub items_stop_first :
    {S E A : Type 0} {grows : Growth S E} (one : List ℕ → Option (A × List ℕ)) {shown : A → List ℕ} {n i : ℕ} {s : S}
    {bytes rest : List ℕ} {m t : S} {e : E} → Stops grows → i < n
    → ItemsLeft grows one shown n s bytes i rest m → grows m (comma_before i) (Err e) t
    → PutsRead grows (λ xs. join_by shown (codes ",") xs) (times_at one n bytes) s t (Err e)
items_stop_first one {shown} {n} {i} {bytes = bytes} {rest} {m} {t} {e} stops lt before comma =
    puts_not (times_at one n bytes) e (λ x is.
    let (others, read, is_left) = before.left x is in
    let (v, first, more, then, same) = next_item one n i rest others x.1 lt read in
    part_not_put t (comma_before i ++ shown v.0) (joined_left shown (i + 1) more) e stops is_left
    (ap (joined_left shown i) (sym same) ∙ left_first shown i v.0 more)
    (stops m t (comma_before i) (shown v.0) e comma))

-- it is not appended itself
pub items_stop :
    {S E A : Type 0} {grows : Growth S E} (one : List ℕ → Option (A × List ℕ)) {shown : A → List ℕ} {n i : ℕ} {s : S}
    {bytes rest : List ℕ} {m k t : S} {e : E} → Joins grows → Stops grows → i < n
    → ItemsLeft grows one shown n s bytes i rest m → grows m (comma_before i) (Ok tt) k
    → PutsRead grows shown (one rest) k t (Err e)
    → PutsRead grows (λ xs. join_by shown (codes ",") xs) (times_at one n bytes) s t (Err e)
items_stop one {shown} {n} {i} {bytes = bytes} {rest} {m} {k} {t} {e} joins stops lt before comma put =
    puts_not (times_at one n bytes) e (λ x is.
    let (others, read, is_left) = before.left x is in
    let (v, first, more, then, same) = next_item one n i rest others x.1 lt read in
    part_not_put t (comma_before i ++ shown v.0) (joined_left shown (i + 1) more) e stops is_left
    (ap (joined_left shown i) (sym same) ∙ left_first shown i v.0 more)
    (joins m k t (comma_before i) (shown v.0) (Err e) comma (was_not_put (one rest) e put first)))

none_more :
    {A : Type 0} (one : List ℕ → Option (A × List ℕ)) (n i : ℕ) (rest : List ℕ) (others : List A) (tail : List ℕ)
    → n ≤ i → times_at one (n - i) rest ≡ Some (others, tail) → ([] ≡ others) × (rest ≡ tail)
unfolding times_at
none_more {A} one n i rest others tail le e =
    let k : n - i ≡ 0 = omega arith in
    let same = some_is ([], rest) (others, tail) (ap (λ (m : ℕ). times_at one m rest) (sym k) ∙ e) in
    (ap (λ (y : List A × List ℕ). y.0) same, ap (λ (y : List A × List ℕ). y.1) same)

-- after the last
pub items_end :
    {S E A : Type 0} {grows : Growth S E} (one : List ℕ → Option (A × List ℕ)) {shown : A → List ℕ} (n i : ℕ) {s : S}
    (bytes : List ℕ) (rest : Bor (List ℕ)) (m : S) → Empty grows → n ≤ i
    → ItemsLeft grows one shown n s bytes i rest.now m
    → PutsRead grows (λ xs. join_by shown (codes ",") xs) (times_at one n bytes) s m (Ok rest)
items_end one {shown} n i bytes rest m empty le before =
    puts_all (times_at one n bytes) rest (λ x is.
    let (others, read, is_left) = before.left x is in
    let (none, same) = none_more one n i rest.now others x.1 le read in
    (none_left empty is_left (ap (joined_left shown i) (sym none)), same))

-- ---- a pair that is appended

-- its key is not
pub key_not_put :
    {S E : Type 0} {grows : Growth S E} (read : InnerReading) (bytes : List ℕ) {s : S} (t : S) (e : E) → Stops grows
    → PutsRead grows value_text (item_at read bytes) s t (Err e)
    → PutsRead grows pair_value_text (pair_at read bytes) s t (Err e)
key_not_put {grows = grows} read bytes {s} t e stops put =
    puts_not (pair_at read bytes) e (λ z is.
    let (x, first, y, second, same) = pair_parts read bytes z is in
    subst (λ (w : (Value × Value) × List ℕ). grows s (pair_value_text w.0) (Err e) t) same
    (stops s t (value_text x.0 ++ codes "=") (value_text y.0) e
    (stops s t (value_text x.0) (codes "=") e (was_not_put (item_at read bytes) e put first))))

-- what parts both is not
pub equals_not_put :
    {S E : Type 0} {grows : Growth S E} (read : InnerReading) (bytes : List ℕ) (rest : Bor (List ℕ)) {s m : S} (t : S)
    (e : E) → Joins grows → Stops grows → PutsRead grows value_text (item_at read bytes) s m (Ok rest)
    → grows m (codes "=") (Err e) t → PutsRead grows pair_value_text (pair_at read bytes) s t (Err e)
equals_not_put {grows = grows} read bytes rest {s} {m} t e joins stops put equals =
    puts_not (pair_at read bytes) e (λ z is.
    let (x, first, y, second, same) = pair_parts read bytes z is in
    subst (λ (w : (Value × Value) × List ℕ). grows s (pair_value_text w.0) (Err e) t) same
    (stops s t (value_text x.0 ++ codes "=") (value_text y.0) e
    (joins s m t (value_text x.0) (codes "=") (Err e) (was_put (item_at read bytes) rest put first).0 equals)))

-- its value is, or is not
pub pair_put :
    {S E : Type 0} {grows : Growth S E} (read : InnerReading) (bytes : List ℕ) (rest : Bor (List ℕ)) {s m n : S} (t : S)
    (r : Result (Bor (List ℕ)) E) → Joins grows → PutsRead grows value_text (item_at read bytes) s m (Ok rest)
    → grows m (codes "=") (Ok tt) n → PutsRead grows value_text (item_at read rest.now) n t r
    → PutsRead grows pair_value_text (pair_at read bytes) s t r
pair_put {grows = grows} read bytes rest {s} {m} {n} t (Ok after) joins key equals value =
    puts_all (pair_at read bytes) after (λ z is.
    let (x, first, y, second, same) = pair_parts read bytes z is in
    let k = was_put (item_at read bytes) rest key first in
    let v = was_put (item_at read rest.now) after value (ap (item_at read) k.1 ∙ second) in
    subst (λ (w : (Value × Value) × List ℕ). grows s (pair_value_text w.0) (Ok tt) t × (after.now ≡ w.1)) same (
      joins s n t (value_text x.0 ++ codes "=") (value_text y.0) (Ok tt)
          (joins s m n (value_text x.0) (codes "=") (Ok tt) k.0 equals) v.0,
      v.1,
    ))
pair_put {grows = grows} read bytes rest {s} {m} {n} t (Err e) joins key equals value =
    puts_not (pair_at read bytes) e (λ z is.
    let (x, first, y, second, same) = pair_parts read bytes z is in
    let k = was_put (item_at read bytes) rest key first in
    let v = was_not_put (item_at read rest.now) e value (ap (item_at read) k.1 ∙ second) in
    subst (λ (w : (Value × Value) × List ℕ). grows s (pair_value_text w.0) (Err e) t) same
    (joins s n t (value_text x.0 ++ codes "=") (value_text y.0) (Err e)
    (joins s m n (value_text x.0) (codes "=") (Ok tt) k.0 equals) v))

-- ---- what stands in brackets

-- how a value is shown that holds these
pub record InBrackets {A : Type 0} (f : List A → Value) (inside : List A → List ℕ) (opening closing : List ℕ)
    : Type 0 where
  pub shown : (xs : List A) → value_text (f xs) ≡ opening ++ (inside xs ++ closing)

same_values : {A : Type 0} (xs : List A) → list_map (λ x. x) xs ≡ xs
same_values [] = refl
same_values (x ∷ xs) = ap (λ (ys : List _). x ∷ ys) (same_values xs)

-- a list of these
abbrev pub of_list : (vs : List Value) → Value
of_list vs = list (values_to_items vs)

-- a map of these pairs
abbrev pub of_map : (ps : List (Value × Value)) → Value
of_map ps = map (values_to_pairs ps)

-- how both are shown, and a map of texts
pub list_shown : InBrackets of_list (λ vs. join_by value_text (codes ",") vs) (codes "List:[") (codes "]")
list_shown = record {
  shown = λ vs.
      ap (λ (xs : List Value). value_text (list (values_to_items xs))) (sym (same_values vs))
      ∙ text_of_list (λ v. v) vs;
}

pub map_shown : InBrackets of_map (λ ps. join_by pair_value_text (codes ",") ps) (codes "Map:{") (codes "}")
map_shown = record {
  shown = λ ps.
      ap (λ (xs : List (Value × Value)). value_text (map (values_to_pairs xs))) (sym (same_values ps))
      ∙ text_of_map (λ p. p) ps;
}

pub texts_shown : InBrackets texts (λ ps. join_by pair_text (codes ",") ps) (codes "StringMap:{") (codes "}")
texts_shown = record { shown = λ ps. refl }

-- a list is its items, so many as its count says
pub list_read :
    (read : InnerReading) (bytes : List ℕ) (n : ℕ) (rest : List ℕ) → count_at most_items bytes ≡ Some (n, rest)
    → plain_at owned_reader read types.DynamicList bytes ≡ as_value of_list (times_at (item_at read) n rest)
unfolding plain_at many_at
list_read read bytes n rest e = rw e refl

-- a map is its pairs
pub map_read :
    (read : InnerReading) (bytes : List ℕ) (n : ℕ) (rest : List ℕ) → count_at most_items bytes ≡ Some (n, rest)
    → plain_at owned_reader read types.DynamicMap bytes ≡ as_value of_map (times_at (pair_at read) n rest)
unfolding plain_at many_at
map_read read bytes n rest e = rw e refl

-- a map of texts is read by its plain type
pub texts_by :
    (levels m : ℕ) (t : FieldType) (s : List ℕ) → levels ≡ suc m → inner t ≡ types.StringMap
    → value_at owned_reader levels t s ≡ as_value texts (many_at most_items text_pair_at s)
unfolding plain_at
texts_by levels m t s more is = value_by levels m t types.StringMap s more is

-- it is its pairs
pub texts_read :
    (bytes : List ℕ) (n : ℕ) (rest : List ℕ) → count_at most_items bytes ≡ Some (n, rest)
    → as_value texts (many_at most_items text_pair_at bytes) ≡ as_value texts (times_at text_pair_at n rest)
unfolding many_at
texts_read bytes n rest e = rw e refl

-- a pair of texts is two of them
pub text_pair_read :
    (bytes key after value rest : List ℕ) → counted_at bytes ≡ Some (key, after) → counted_at after ≡ Some (value, rest)
    → text_pair_at bytes ≡ Some ((key, value), rest)
unfolding text_pair_at
text_pair_read bytes key after value rest first second = rw (first, second) refl

-- all of it is left
brackets_left :
    {S E A : Type 0} (grows : Growth S E) (f : List A → Value) {inside : List A → List ℕ} {opening closing : List ℕ}
    (s : S) (v : Value) (xs : List A) → InBrackets f inside opening closing → f xs ≡ v
    → IsLeft grows s (value_text v) s (opening ++ (inside xs ++ closing))
brackets_left grows f s v xs in_brackets same = all_left grows s (sym (in_brackets.shown xs) ∙ ap value_text same)

-- its first part is not appended
pub not_opened :
    {S E A : Type 0} {grows : Growth S E} (f : List A → Value) {inside : List A → List ℕ} {opening closing : List ℕ}
    (o : Option (List A × List ℕ)) {s : S} (t : S) (e : E) → InBrackets f inside opening closing → Stops grows
    → grows s opening (Err e) t → PutsRead grows value_text (as_value f o) s t (Err e)
not_opened {grows = grows} f {inside} {opening} {closing} o {s} t e in_brackets stops first =
    puts_not (as_value f o) e (λ x is.
    let (xs, read, same) = as_value_some f o x.0 x.1 is in
    part_not_put t opening (inside xs ++ closing) e stops (brackets_left grows f s x.0 xs in_brackets same) refl first)

-- what it holds is not
pub not_filled :
    {S E A : Type 0} {grows : Growth S E} (f : List A → Value) {inside : List A → List ℕ} {opening closing : List ℕ}
    (o : Option (List A × List ℕ)) {s m : S} (t : S) (e : E) → InBrackets f inside opening closing → Joins grows
    → Stops grows → grows s opening (Ok tt) m → PutsRead grows inside o m t (Err e)
    → PutsRead grows value_text (as_value f o) s t (Err e)
not_filled {grows = grows} f {inside} {opening} {closing} o {s} {m} t e in_brackets joins stops first held =
    puts_not (as_value f o) e (λ x is.
    let (xs, read, same) = as_value_some f o x.0 x.1 is in
    part_not_put t (inside xs) closing e stops
    (part_put m opening (inside xs ++ closing) joins (brackets_left grows f s x.0 xs in_brackets same) refl first) refl
    (was_not_put o e held read))

-- its last part is
pub closed :
    {S E A : Type 0} {grows : Growth S E} (f : List A → Value) {inside : List A → List ℕ} {opening closing : List ℕ}
    (o : Option (List A × List ℕ)) (rest : Bor (List ℕ)) {s m n : S} (t : S) → InBrackets f inside opening closing
    → Joins grows → grows s opening (Ok tt) m → PutsRead grows inside o m n (Ok rest) → grows n closing (Ok tt) t
    → PutsRead grows value_text (as_value f o) s t (Ok rest)
closed {grows = grows} f {inside} {opening} {closing} o rest {s} {m} {n} t in_brackets joins first held last =
    puts_all (as_value f o) rest (λ x is.
    let (xs, read, same) = as_value_some f o x.0 x.1 is in
    let put = was_put o rest held read in
    let opened = part_put m opening (inside xs ++ closing) joins (brackets_left grows f s x.0 xs in_brackets same) refl
    first in
    let filled = part_put n (inside xs) closing joins opened refl put.0 in
    (filled.answers (Ok tt) t last, put.1))

-- or it is not
pub not_closed :
    {S E A : Type 0} {grows : Growth S E} (f : List A → Value) {inside : List A → List ℕ} {opening closing : List ℕ}
    (o : Option (List A × List ℕ)) (rest : Bor (List ℕ)) {s m n : S} (t : S) (e : E)
    → InBrackets f inside opening closing → Joins grows → grows s opening (Ok tt) m
    → PutsRead grows inside o m n (Ok rest) → grows n closing (Err e) t
    → PutsRead grows value_text (as_value f o) s t (Err e)
not_closed {grows = grows} f {inside} {opening} {closing} o rest {s} {m} {n} t e in_brackets joins first held last =
    puts_not (as_value f o) e (λ x is.
    let (xs, read, same) = as_value_some f o x.0 x.1 is in
    let put = was_put o rest held read in
    let opened = part_put m opening (inside xs ++ closing) joins (brackets_left grows f s x.0 xs in_brackets same) refl
    first in
    let filled = part_put n (inside xs) closing joins opened refl put.0 in
    filled.answers (Err e) t last)

-- ---- a value that was made

-- it was appended
pub value_put :
    {S E : Type 0} {grows : Growth S E} (bytes : List ℕ) (t : FieldType) (v : Value) (rest : Bor (List ℕ)) {s m : S}
    → (front : List ℕ) × (bytes ≡ front ++ rest.now) × IsValue owned_reader t 0 front v
    → grows s (value_text v) (Ok tt) m
    → PutsRead grows value_text (value_at owned_reader 33 t bytes) s m (Ok rest)
value_put {grows = grows} bytes t v rest {s} {m} decoded put =
    puts_all (value_at owned_reader 33 t bytes) rest (λ x is.
    subst (λ (y : Value × List ℕ). grows s (value_text y.0) (Ok tt) m × (rest.now ≡ y.1))
    (some_is (v, rest.now) x (sym (decoded_read t bytes rest.now v decoded) ∙ is)) (put, refl))

-- or it was not
pub value_not_put :
    {S E : Type 0} {grows : Growth S E} (bytes : List ℕ) (t : FieldType) (v : Value) (rest : List ℕ) {s m : S} (e : E)
    → (front : List ℕ) × (bytes ≡ front ++ rest) × IsValue owned_reader t 0 front v
    → grows s (value_text v) (Err e) m
    → PutsRead grows value_text (value_at owned_reader 33 t bytes) s m (Err e)
value_not_put {grows = grows} bytes t v rest {s} {m} e decoded put =
    puts_not (value_at owned_reader 33 t bytes) e (λ x is.
    subst (λ (y : Value × List ℕ). grows s (value_text y.0) (Err e) m)
    (some_is (v, rest) x (sym (decoded_read t bytes rest v decoded) ∙ is)) put)

-- a value of a plain type that is no list and no map is read alike at each level
pub plain_at_level :
    (levels m : ℕ) (t u : FieldType) (s : List ℕ) → levels ≡ suc m → inner t ≡ u → inner u ≡ u
    → (u ≡ types.DynamicList → ⊥) → (u ≡ types.DynamicMap → ⊥)
    → value_at owned_reader levels t s ≡ value_at owned_reader 33 u s
plain_at_level levels m t u s more is same no_list no_map =
    value_by levels m t u s more is
    ∙ plain_alike (value_at owned_reader m) (value_at owned_reader 32) u s no_list no_map
    ∙ sym (value_by 33 32 u u s (omega arith) same)

-- of a plain type the plain type is itself
pub inner_inner : (t : FieldType) → inner (inner t) ≡ inner t
inner_inner types.I64 = refl
inner_inner types.F64 = refl
inner_inner types.Bool = refl
inner_inner types.String = refl
inner_inner types.Bytes = refl
inner_inner types.PooledStackFrames = refl
inner_inner types.PooledString = refl
inner_inner types.StackFrames = refl
inner_inner types.Varint = refl
inner_inner types.StringMap = refl
inner_inner types.U8 = refl
inner_inner types.U16 = refl
inner_inner types.U32 = refl
inner_inner types.DynamicList = refl
inner_inner types.DynamicMap = refl
inner_inner types.OptionalI64 = refl
inner_inner types.OptionalF64 = refl
inner_inner types.OptionalBool = refl
inner_inner types.OptionalString = refl
inner_inner types.OptionalBytes = refl
inner_inner types.OptionalPooledStackFrames = refl
inner_inner types.OptionalPooledString = refl
inner_inner types.OptionalStackFrames = refl
inner_inner types.OptionalVarint = refl
inner_inner types.OptionalStringMap = refl
inner_inner types.OptionalU8 = refl
inner_inner types.OptionalU16 = refl
inner_inner types.OptionalU32 = refl
inner_inner types.OptionalDynamicList = refl
inner_inner types.OptionalDynamicMap = refl

-- ---- a field

-- a field that is always there is its value
pub field_plain : (t : FieldType) (s : List ℕ) → is_optional t ≡ false
    → field_at owned_reader t s ≡ value_at owned_reader 33 t s
unfolding field_at
field_plain t s e = ap (λ (b : Bool). field_by b owned_reader t s) e

front_is : (bytes : List ℕ) (x : ℕ) (rest : List ℕ) → byte_at bytes ≡ Some (x, rest) → bytes ≡ x ∷ rest
front_is [] x rest e = absurd (none_some (x, rest) e)
front_is (y ∷ s) x rest e = ap (λ (p : ℕ × List ℕ). p.0 ∷ p.1) (some_is (y, s) (x, rest) e)

not_zero : (x : ℕ) → (x ≡ 0 → ⊥) → (x == 0) ≡ false
not_zero x h = grind (arith, nat_tests)

-- one that is absent
pub field_absent : (t : FieldType) (bytes : List ℕ) (x : ℕ) (rest : List ℕ) → is_optional t ≡ true
    → byte_at bytes ≡ Some (x, rest) → x ≡ 0 → field_at owned_reader t bytes ≡ Some (absent, rest)
unfolding field_at
field_absent t bytes x rest e first zero_is =
    ap (λ (b : Bool). field_by b owned_reader t bytes) e
    ∙ ap (λ (s : List ℕ). field_by true owned_reader t s) (front_is bytes x rest first
    ∙ ap (λ (y : ℕ). y ∷ rest) zero_is)

-- one that is there
pub field_present : (t : FieldType) (bytes : List ℕ) (x : ℕ) (rest : List ℕ) → is_optional t ≡ true
    → byte_at bytes ≡ Some (x, rest) → (x ≡ 0 → ⊥) → field_at owned_reader t bytes ≡ value_at owned_reader 33 t rest
unfolding field_at
field_present t bytes x rest e first there =
    ap (λ (b : Bool). field_by b owned_reader t bytes) e
    ∙ ap (λ (s : List ℕ). field_by true owned_reader t s) (front_is bytes x rest first) ∙ rw (not_zero x there) refl

-- ---- fields one after another

-- what is left to be read of the fields of these types, and of their text
pub record FieldsLeft {S E : Type 0} (grows : Growth S E) (ts : List FieldType) (s : S) (bytes : List ℕ) (i : ℕ)
    (rest : List ℕ) (m : S) : Type 0 where
  pub left : (x : List Value × List ℕ) → fields_at owned_reader ts bytes ≡ Some x → (others : List Value)
      × (fields_at owned_reader (drop i ts) rest ≡ Some (others, x.1))
      × IsLeft grows s (flat_map spaced_value x.0) m (flat_map spaced_value others)

-- before the first
pub fields_begin :
    {S E : Type 0} (grows : Growth S E) (ts : List FieldType) (s : S) (bytes : List ℕ)
    → FieldsLeft grows ts s bytes 0 bytes s
fields_begin grows ts s bytes = record { left = λ x e. (x.0, e, all_left grows s refl) }

next_field :
    (t : FieldType) (ts : List FieldType) (rest : List ℕ) (others : List Value) (tail : List ℕ)
    → fields_at owned_reader (t ∷ ts) rest ≡ Some (others, tail)
    → (v : Value × List ℕ) × (field_at owned_reader t rest ≡ Some v) × (more : List Value)
    × (fields_at owned_reader ts v.1 ≡ Some (more, tail)) × (v.0 ∷ more ≡ others)
unfolding fields_at
next_field t ts rest others tail e =
    let a = bind_some (field_at owned_reader t rest) (λ v. fields_at owned_reader ts v.1 >>= λ more. Some
    (v.0 ∷ more.0, more.1)) (others, tail) e in
    let b = bind_some (fields_at owned_reader ts a.0.1) (λ more. Some (a.0.0 ∷ more.0, more.1)) (others, tail) a.2 in
    let same = some_is (a.0.0 ∷ b.0.0, b.0.1) (others, tail) b.2 in (
      a.0,
      a.1,
      b.0.0,
      b.1 ∙ ap (λ (y : List ℕ). Some (b.0.0, y)) (ap (λ (y : List Value × List ℕ). y.1) same),
      ap (λ (y : List Value × List ℕ). y.0) same,
    )

-- one more is appended
pub fields_go_on :
    {S E : Type 0} {grows : Growth S E} (ts : List FieldType) (t : FieldType) {i : ℕ} {s : S} {bytes : List ℕ}
    {rest : List ℕ} {after : Bor (List ℕ)} {m k n : S} → Joins grows → drop i ts ≡ t ∷ drop (i + 1) ts
    → FieldsLeft grows ts s bytes i rest m → grows m (codes " ") (Ok tt) k
    → PutsRead grows value_text (field_at owned_reader t rest) k n (Ok after)
    → FieldsLeft grows ts s bytes (i + 1) after.now n
fields_go_on ts t {i} {rest = rest} {after} {m} {k} {n} joins first before space put = record {
  left = λ x e.
      let (others, read, is_left) = before.left x e in
      let (v, one, more, then, same) = next_field t (drop (i + 1) ts) rest others x.1
      (ap (λ (us : List FieldType). fields_at owned_reader us rest) (sym first) ∙ read) in
      let p = was_put (field_at owned_reader t rest) after put one in (
        more,
        ap (λ (y : List ℕ). fields_at owned_reader (drop (i + 1) ts) y) p.1 ∙ then,
        part_put n (spaced_value v.0) (flat_map spaced_value more) joins is_left
            (ap (flat_map spaced_value) (sym same))
            (joins m k n (codes " ") (value_text v.0) (Ok tt) space p.0),
      );
}

-- the space before it is not appended
pub fields_stop_first :
    {S E : Type 0} {grows : Growth S E} (ts : List FieldType) (t : FieldType) {i : ℕ} {s : S} {bytes rest : List ℕ}
    {m n : S} {e : E} → Stops grows → drop i ts ≡ t ∷ drop (i + 1) ts → FieldsLeft grows ts s bytes i rest m
    → grows m (codes " ") (Err e) n
    → PutsRead grows (λ vs. flat_map spaced_value vs) (fields_at owned_reader ts bytes) s n (Err e)
fields_stop_first ts t {i} {bytes = bytes} {rest} {m} {n} {e} stops first before space =
    puts_not (fields_at owned_reader ts bytes) e (λ x is.
    let (others, read, is_left) = before.left x is in
    let (v, one, more, then, same) = next_field t (drop (i + 1) ts) rest others x.1
    (ap (λ (us : List FieldType). fields_at owned_reader us rest) (sym first) ∙ read) in
    part_not_put n (spaced_value v.0) (flat_map spaced_value more) e stops is_left
    (ap (flat_map spaced_value) (sym same))
    (stops m n (codes " ") (value_text v.0) e space))

-- its value is not
pub fields_stop :
    {S E : Type 0} {grows : Growth S E} (ts : List FieldType) (t : FieldType) {i : ℕ} {s : S} {bytes rest : List ℕ}
    {m k n : S} {e : E} → Joins grows → Stops grows → drop i ts ≡ t ∷ drop (i + 1) ts
    → FieldsLeft grows ts s bytes i rest m → grows m (codes " ") (Ok tt) k
    → PutsRead grows value_text (field_at owned_reader t rest) k n (Err e)
    → PutsRead grows (λ vs. flat_map spaced_value vs) (fields_at owned_reader ts bytes) s n (Err e)
fields_stop ts t {i} {bytes = bytes} {rest} {m} {k} {n} {e} joins stops first before space put =
    puts_not (fields_at owned_reader ts bytes) e (λ x is.
    let (others, read, is_left) = before.left x is in
    let (v, one, more, then, same) = next_field t (drop (i + 1) ts) rest others x.1
    (ap (λ (us : List FieldType). fields_at owned_reader us rest) (sym first) ∙ read) in
    part_not_put n (spaced_value v.0) (flat_map spaced_value more) e stops is_left
    (ap (flat_map spaced_value) (sym same))
    (joins m k n (codes " ") (value_text v.0) (Err e) space
    (was_not_put (field_at owned_reader t rest) e put one)))

no_field_more :
    (rest : List ℕ) (others : List Value) (tail : List ℕ) → fields_at owned_reader [] rest ≡ Some (others, tail)
    → ([] ≡ others) × (rest ≡ tail)
unfolding fields_at
no_field_more rest others tail e =
    let same = some_is ([], rest) (others, tail) e in
    (ap (λ (y : List Value × List ℕ). y.0) same, ap (λ (y : List Value × List ℕ). y.1) same)

-- after the last
pub fields_end :
    {S E : Type 0} {grows : Growth S E} (ts : List FieldType) (i : ℕ) {s : S} (bytes : List ℕ) (rest : Bor (List ℕ))
    (m : S) → Empty grows → drop i ts ≡ [] → FieldsLeft grows ts s bytes i rest.now m
    → PutsRead grows (λ vs. flat_map spaced_value vs) (fields_at owned_reader ts bytes) s m (Ok rest)
fields_end ts i bytes rest m empty done before =
    puts_all (fields_at owned_reader ts bytes) rest (λ x is.
    let (others, read, is_left) = before.left x is in
    let (none, same) = no_field_more rest.now others x.1
    (ap (λ (us : List FieldType). fields_at owned_reader us rest.now) (sym done) ∙ read) in
    (none_left empty is_left (ap (flat_map spaced_value) (sym none)), same))

-- fields that are spelled are read
pub fields_are_read : (ts : List FieldType) (bytes : List ℕ) (vs : List Value) → AreFields owned_reader ts bytes vs
    → fields_at owned_reader ts bytes ≡ Some (vs, [])
fields_are_read ts bytes vs p =
    ap (fields_at owned_reader ts) (sym (append-nil bytes)) ∙ fields_again owned_reader ts bytes [] vs p
