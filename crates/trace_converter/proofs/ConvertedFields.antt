-- Fields that were converted, one after another.
use Rattle.std.proofs.Common.{◌≡◌, ℕ, ◌+◌, ◌<◌, List, [], ◌∷◌, ◌++◌, length, take, drop, map, get_or, Option, Some}
use Rattle.std.proofs.Common.{None}
use Rattle.std.proofs.Common.{Result, Ok, Err, IfErr, IsErrAnd, option_map, inl, inr, refl, sym, ap, subst, ◌∙◌}
use Rattle.std.proofs.lemmas.List.{map-append, take-append-drop, drop_more}
use Rattle.trace_values.specs.declared.leb128.error.EncodeError.{EncodeError}
use Rattle.trace_values.specs.declared.leb128.error.EncodeError.TheVariants as encode_errors
use Rattle.trace_values.specs.Sending.{Account}
use Rattle.trace_values.specs.declared.types.field_type.FieldType.{FieldType}
use Rattle.trace_values.specs.declared.types.field_value.FieldValue.{FieldValue}
use Rattle.trace_values.specs.ValueViews.{view, views}
use Rattle.trace_values.specs.Values.{Value, pooled_text, pooled_stack, list, map as pairs_map, Items, no_items, item}
use Rattle.trace_values.specs.Values.{Pairs, no_pairs, pair}
use Rattle.trace_wire.specs.Schemas.{Field}
use Rattle.trace_wire.specs.Runs.{Pools}
use Rattle.trace_writer.specs.State.{EncoderView}
use Rattle.trace_writer.specs.Calls.{write_event_at}
use Rattle.trace_writer.specs.Outcomes.{Outcome, replied_done}
use Rattle.dial9_trace_format.specs.ShownEvents.{ShownEvent}
use Rattle.trace_converter.specs.declared.rules.Rule.{Rule}
use Rattle.trace_converter.specs.declared.converter.ConvertError.{ConvertError}
use Rattle.trace_converter.specs.declared.converter.ConvertError.TheVariants.{NoField, UnknownId, Refused}
use Rattle.trace_converter.specs.Rules.{field_named, renamed, old_values}
use Rattle.trace_converter.specs.Conversions.{ConvertsValue, ConvertsValues, ConvertsFirst, ConvertsEvent}
use Rattle.trace_converter.specs.parts.Kept.{Names, HasConverted}
use Rattle.trace_converter.specs.Conversions.{RefusesValue, RefusesItem, RefusesPair, LacksField, RefusesNext}
use Rattle.trace_converter.specs.Conversions.{RefusesEvent}

-- a field of this type under the new name
abbrev pub under : Names → FieldType → Field
under n t = record { name = n.1.now; field_type = t }

-- none
pub has_none : {W : Type 0} (told : W → Account) (e : ShownEvent) (x : EncoderView W)
    → HasConverted told e [] x [] [] x
has_none told e x = record { kept = []; are_kept = refl; fields_are = refl; converted = refl }

-- values, and one more
converts_more :
    {W : Type 0} (told : W → Account) (p : Pools) (before : List Value) (v : Value) (later : List Value) (w : Value)
    (old mid new : EncoderView W) → ConvertsValues told p before old later mid → ConvertsValue told p v mid w new
    → ConvertsValues told p (before ++ v ∷ []) old (later ++ w ∷ []) new
converts_more {W} told p [] v [] w old mid new h one =
    (new, subst (λ (x : EncoderView W). ConvertsValue told p v x w new) h one, refl)
converts_more told p (a ∷ before) v (b ∷ later) w old mid new (m, first, rest) one =
    (m, first, (converts_more told p before v later w) m mid new rest one)
converts_more told p [] v (b ∷ later) w old mid new h one = absurd h
converts_more told p (a ∷ before) v [] w old mid new h one = absurd h

-- and one more field
pub has_more :
    {W : Type 0} {told : W → Account} {e : ShownEvent} {names all : List Names} {old mid new : EncoderView W}
    {fields more_fields : List Field} {values more_values : List Value} (n : Names) (x : Field × Value) (w : Value)
    → all ≡ names ++ n ∷ [] → renamed e n ≡ Some x → more_fields ≡ fields ++ x.0 ∷ []
    → more_values ≡ values ++ w ∷ [] → HasConverted told e names old fields values mid
    → ConvertsValue told e.pools x.1 mid w new → HasConverted told e all old more_fields more_values new
has_more {W} {told} {e} {names} {all} {old} {mid} {new} {fields} {more_fields} {values} {more_values} n x w more is
    fields_more values_more h one = record {
      kept = h.kept ++ x ∷ [];
      are_kept = ap (map (renamed e)) more ∙ map-append (renamed e) names (n ∷ [])
          ∙ ap (λ (o : Option (Field × Value)). map (renamed e) names ++ o ∷ []) is
          ∙ ap (λ (os : List (Option (Field × Value))). os ++ Some x ∷ []) h.are_kept
          ∙ sym (map-append Some h.kept (x ∷ []));
      fields_are = fields_more ∙ ap (λ (fs : List Field). fs ++ x.0 ∷ []) h.fields_are
          ∙ sym (map-append (λ (y : Field × Value). y.0) h.kept (x ∷ []));
      converted =
          subst (λ (ws : List Value). ConvertsValues told e.pools (old_values (h.kept ++ x ∷ [])) old ws new)
          (sym values_more)
          (subst (λ (vs : List Value). ConvertsValues told e.pools vs old (values ++ w ∷ []) new)
          (sym (map-append (λ (y : Field × Value). y.1) h.kept (x ∷ [])))
          ((converts_more told e.pools (old_values h.kept) x.1 values w) old mid new h.converted one));
    }

-- so the first of a rule's were
pub first_of_rule :
    {W : Type 0} {told : W → Account} {e : ShownEvent} {old new : EncoderView W} {fields : List Field}
    {values : List Value} (rule : Rule) (i : ℕ) → HasConverted told e (take i rule.fields.now) old fields values new
    → ConvertsFirst told rule e (drop i rule.fields.now) old new
first_of_rule {W} {told} {e} {old} {new} {fields} {values} rule i h = record {
  names = take i rule.fields.now;
  parts = sym (take-append-drop i rule.fields.now);
  kept = h.kept;
  are_kept = h.are_kept;
  values = values;
  converted = h.converted;
}

-- the names from a place on
pub names_at : (rule : Rule) (i : ℕ) (d : Names) → i < length rule.fields.now
    → drop i rule.fields.now ≡ get_or rule.fields.now i d ∷ drop (i + 1) rule.fields.now
names_at rule i d inside = drop_more rule.fields.now i d inside

-- the event was written, or refused
pub event_written :
    {W : Type 0} {told : W → Account} {e : ShownEvent} {old mid : EncoderView W} {fields : List Field}
    {values : List Value} (rule : Rule) (new : EncoderView W)
    → HasConverted told e rule.fields.now old fields values mid
    → Outcome told mid
    (write_event_at rule.slot (record { name = rule.to.now; fields = fields; annotations = [] }) e.time values)
    replied_done (Ok tt) new → ConvertsEvent told rule e old new
event_written {W} {told} {e} {old} {mid} {fields} {values} rule new h call = record {
  kept = h.kept;
  are_kept = h.are_kept;
  values = values;
  mid = mid;
  converted = h.converted;
  written = subst (λ (fs : List Field).
      Outcome told mid (write_event_at rule.slot (record { name = rule.to.now; fields = fs; annotations = [] }) e.time
      values)
      replied_done (Ok tt) new) h.fields_are call;
}

-- where the call was refused the event was
pub event_refused :
    {W : Type 0} {told : W → Account} {e : ShownEvent} {old mid : EncoderView W} {fields : List Field}
    {values : List Value} (rule : Rule) (error : EncodeError) (new : EncoderView W)
    → HasConverted told e rule.fields.now old fields values mid
    → Outcome told mid
    (write_event_at rule.slot (record { name = rule.to.now; fields = fields; annotations = [] }) e.time values)
    replied_done (Err error) new → RefusesEvent told rule e old (Refused error) new
event_refused {W} {told} {e} {old} {mid} {fields} {values} rule error new h call = inr (inl (record {
  kept = h.kept;
  are_kept = h.are_kept;
  values = values;
  mid = mid;
  converted = h.converted;
  refused = subst (λ (fs : List Field).
      Outcome told mid (write_event_at rule.slot (record { name = rule.to.now; fields = fs; annotations = [] }) e.time
      values)
      replied_done (Err error) new) h.fields_are call;
}))

-- there was no room
pub no_room :
    {W R : Type 0} {told : W → Account} {e : ShownEvent} {old new : EncoderView W} {fields : List Field}
    {values : List Value} (rule : Rule) (i : ℕ) (r : Result R ConvertError)
    → IsErrAnd r (λ x. x ≡ Refused encode_errors.OutOfMemory)
    → HasConverted told e (take i rule.fields.now) old fields values new
    → IfErr r (λ x. RefusesEvent told rule e old x new)
no_room rule i (Ok x) is h = tt
no_room {W} {R} {told} {e} {old} {new} {fields} {values} rule i (Err x) is h =
    subst (λ y. RefusesEvent told rule e old y new) (sym is)
    (inr (inr (refl, (drop i rule.fields.now, first_of_rule rule i h))))

-- a value does not lack a field, nor does an item or a pair
mutual
  no_field_of_value :
      {W : Type 0} (told : W → Account) (p : Pools) (v : Value) (old new : EncoderView W)
      → RefusesValue told p v old NoField new → ⊥
  no_field_of_value told p (pooled_text id) old new h = h
  no_field_of_value told p (pooled_stack id) old new h = h
  no_field_of_value told p (list items) old new h = no_field_of_item told p items old new h
  no_field_of_value told p (pairs_map pairs) old new h = no_field_of_pair told p pairs old new h
  no_field_of_value told p v old new h = h

  no_field_of_item :
      {W : Type 0} (told : W → Account) (p : Pools) (items : Items) (old new : EncoderView W)
      → RefusesItem told p items old NoField new → ⊥
  no_field_of_item told p no_items old new h = h
  no_field_of_item told p (item v items) old new (inl (want, same)) = want
  no_field_of_item told p (item v items) old new (inr (inl h)) = no_field_of_value told p v old new h
  no_field_of_item told p (item v items) old new (inr (inr (w, mid, first, h))) =
      no_field_of_item told p items mid new h

  no_field_of_pair :
      {W : Type 0} (told : W → Account) (p : Pools) (pairs : Pairs) (old new : EncoderView W)
      → RefusesPair told p pairs old NoField new → ⊥
  no_field_of_pair told p no_pairs old new h = h
  no_field_of_pair told p (pair x y pairs) old new (inl (want, same)) = want
  no_field_of_pair told p (pair x y pairs) old new (inr (inl h)) = no_field_of_value told p x old new h
  no_field_of_pair told p (pair x y pairs) old new (inr (inr (v, mid, key, inl h))) =
      no_field_of_value told p y mid new h
  no_field_of_pair told p (pair x y pairs) old new (inr (inr (v, mid, key, inr (w, last, value, h)))) =
      no_field_of_pair told p pairs last new h

-- the next value was refused
of_value :
    {W : Type 0} {told : W → Account} {rule : Rule} {e : ShownEvent} {old new : EncoderView W} (error : ConvertError)
    → RefusesNext told rule e old error new → RefusesEvent told rule e old error new
of_value UnknownId h = h
of_value (Refused z) h = inl h
of_value {W} {told} {rule} {e} {old} {new} NoField (ns, os, m, y, first, is, h) =
    absurd (no_field_of_value told e.pools y.1 m new h)

-- where its value was refused the event was
pub value_refused :
    {W R : Type 0} {told : W → Account} {e : ShownEvent} {old mid : EncoderView W} {fields : List Field}
    {values : List Value} (new : EncoderView W) (rule : Rule) (i : ℕ) (n : Names) (x : Field × Value)
    (error : ConvertError) (r : Result R ConvertError) → IsErrAnd r (λ y. y ≡ error)
    → drop i rule.fields.now ≡ n ∷ drop (i + 1) rule.fields.now → renamed e n ≡ Some x
    → HasConverted told e (take i rule.fields.now) old fields values mid
    → RefusesValue told e.pools x.1 mid error new → IfErr r (λ y. RefusesEvent told rule e old y new)
value_refused new rule i n x error (Ok y) is at found h refused = tt
value_refused {W} {R} {told} {e} {old} {mid} {fields} {values} new rule i n x error (Err y) is at found h refused =
    subst (λ z. RefusesEvent told rule e old z new) (sym is)
    (of_value error (
      n,
      drop (i + 1) rule.fields.now,
      mid,
      x,
      subst (λ (ns : List Names). ConvertsFirst told rule e ns old mid) at (first_of_rule rule i h),
      found,
      refused,
    ))

-- ---- at a place of the rule's names

-- the field of these names is not there
pub field_lacks :
    {W : Type 0} {told : W → Account} {e : ShownEvent} {old new : EncoderView W} {fields : List Field}
    {values : List Value} (rule : Rule) (i : ℕ) (d : Names) → i < length rule.fields.now
    → HasConverted told e (take i rule.fields.now) old fields values new
    → None ≡ field_named (get_or rule.fields.now i d).0.now e.entry.fields e.values → LacksField told rule e old new
field_lacks {W} {told} {e} {old} {new} {fields} {values} rule i d inside h none =
    let n = get_or rule.fields.now i d in (
      n,
      drop (i + 1) rule.fields.now,
      subst (λ (ns : List Names). ConvertsFirst told rule e ns old new) (names_at rule i d inside)
          (first_of_rule rule i h),
      sym (ap (option_map (λ (x : FieldType × Value). (under n x.0, x.1))) none),
    )

-- it is
pub field_found :
    (rule : Rule) (i : ℕ) (d : Names) (e : ShownEvent) (t : FieldType) (v : Value)
    → Some (t, v) ≡ field_named (get_or rule.fields.now i d).0.now e.entry.fields e.values
    → renamed e (get_or rule.fields.now i d) ≡ Some (under (get_or rule.fields.now i d) t, v)
field_found rule i d e t v some =
    let n = get_or rule.fields.now i d in
    sym (ap (option_map (λ (x : FieldType × Value). (under n x.0, x.1))) some)

-- a value more in a list
pub views_more : (old new : List FieldValue) (w : FieldValue) → new ≡ old ++ w ∷ []
    → views new ≡ views old ++ view w ∷ []
views_more old new w is = ap views is ∙ map-append view old (w ∷ [])
