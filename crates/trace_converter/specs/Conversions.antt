-- What a converter does with an event for which there is a rule.
use Rattle.std.specs.Prelude.{◌≡◌, ◌⊎◌, ℕ, List, [], ◌∷◌, ◌++◌, Some, None, Ok, Err}
use Rattle.std.specs.Borrow.{Bor}
use Rattle.std.specs.FinMap as map
use Rattle.trace_values.specs.declared.leb128.error.EncodeError.{EncodeError}
use Rattle.trace_values.specs.declared.leb128.error.EncodeError.TheVariants as encode_errors
use Rattle.trace_values.specs.declared.types.ids.InternedString.{InternedString}
use Rattle.trace_values.specs.declared.types.ids.InternedStackFrames.{InternedStackFrames}
use Rattle.trace_values.specs.Sending.{Account}
use Rattle.trace_values.specs.Values.{Value, pooled_text, pooled_stack, list, map as pairs_map, Items, no_items, item}
use Rattle.trace_values.specs.Values.{Pairs, no_pairs, pair}
use Rattle.trace_values.specs.Owning.{owned_form}
use Rattle.trace_wire.specs.Schemas.{Field}
use Rattle.trace_wire.specs.Runs.{Pools}
use Rattle.trace_writer.specs.State.{EncoderView}
use Rattle.trace_writer.specs.Calls.{intern_string, intern_stack, write_event_at}
use Rattle.trace_writer.specs.Outcomes.{Outcome, replied_done, replied_text, replied_stack}
use Rattle.dial9_trace_format.specs.ShownEvents.{ShownEvent}
use Rattle.trace_converter.specs.declared.rules.Rule.{Rule}
use Rattle.trace_converter.specs.declared.converter.ConvertError.{ConvertError}
use Rattle.trace_converter.specs.declared.converter.ConvertError.TheVariants.{NoField, UnknownId, Refused}
use Rattle.trace_converter.specs.Rules.{renamed, AreKept, new_entry, old_values}

-- A value becomes another one. The text or the stack of an id is interned; the items of a list, and the keys and values
-- of a map, are converted in order; any other value is as it was, in memory of its own.
abbrev mutual
  pub ConvertsValue : {W : Type 0} → (W → Account) → Pools → Value → EncoderView W → Value → EncoderView W → Type 0
  ConvertsValue told p (pooled_text id) old v new =
      (text : List ℕ) × (i : InternedString) × (map.get p.strings id ≡ Some text) × (v ≡ pooled_text i.0)
      × Outcome told old (intern_string text) replied_text (Ok i) new
  ConvertsValue told p (pooled_stack id) old v new =
      (stack : List ℕ) × (i : InternedStackFrames) × (map.get p.stacks id ≡ Some stack) × (v ≡ pooled_stack i.0)
      × Outcome told old (intern_stack stack) replied_stack (Ok i) new
  ConvertsValue told p (list items) old v new =
      (later : Items) × (v ≡ list later) × ConvertsItems told p items old later new
  ConvertsValue told p (pairs_map pairs) old v new =
      (later : Pairs) × (v ≡ pairs_map later) × ConvertsPairs told p pairs old later new
  ConvertsValue told p value old v new = (v ≡ owned_form value) × (new ≡ old)

  pub ConvertsItems : {W : Type 0} → (W → Account) → Pools → Items → EncoderView W → Items → EncoderView W → Type 0
  ConvertsItems told p no_items old no_items new = new ≡ old
  ConvertsItems {W} told p (item v before) old (item w later) new =
      (mid : EncoderView W) × ConvertsValue told p v old w mid × ConvertsItems told p before mid later new
  ConvertsItems told p before old later new = ⊥

  pub ConvertsPairs : {W : Type 0} → (W → Account) → Pools → Pairs → EncoderView W → Pairs → EncoderView W → Type 0
  ConvertsPairs told p no_pairs old no_pairs new = new ≡ old
  ConvertsPairs {W} told p (pair x y before) old (pair v w later) new =
      (first mid : EncoderView W) × ConvertsValue told p x old v first × ConvertsValue told p y first w mid
      × ConvertsPairs told p before mid later new
  ConvertsPairs told p before old later new = ⊥

-- values, one after another
abbrev pub ConvertsValues : {W : Type 0} → (W → Account) → Pools → List Value → EncoderView W → List Value
    → EncoderView W → Type 0
ConvertsValues told p [] old [] new = new ≡ old
ConvertsValues {W} told p (v ∷ before) old (w ∷ later) new =
    (mid : EncoderView W) × ConvertsValue told p v old w mid × ConvertsValues told p before mid later new
ConvertsValues told p before old later new = ⊥

-- The fields that the rule keeps were converted, in order, and then the event was written: under the new schema, at
-- the same time, with the new values.
pub record ConvertsEvent {W : Type 0} (told : W → Account) (rule : Rule) (e : ShownEvent)
    (old new : EncoderView W) : Type 0 where
  pub kept : List (Field × Value)
  pub are_kept : AreKept e rule.fields.now kept
  pub values : List Value
  pub mid : EncoderView W
  pub converted : ConvertsValues told e.pools (old_values kept) old values mid
  pub written : Outcome told mid (write_event_at rule.slot (new_entry rule kept) e.time values) replied_done (Ok tt) new

-- a growth was refused
abbrev pub IsWant : ConvertError → Type 0
IsWant (Refused e) = e ≡ encode_errors.OutOfMemory
IsWant error = ⊥

-- Why a value was not converted: its id stands for nothing, or interning was refused; or a growth was. Of a list that
-- is why an item was not, once those before it were; and so of a map, each key before its value.
abbrev mutual
  pub RefusesValue : {W : Type 0} → (W → Account) → Pools → Value → EncoderView W → ConvertError → EncoderView W
      → Type 0
  RefusesValue told p (pooled_text id) old UnknownId new = (map.get p.strings id ≡ None) × (new ≡ old)
  RefusesValue told p (pooled_text id) old (Refused e) new =
      (text : List ℕ) × (map.get p.strings id ≡ Some text)
      × Outcome told old (intern_string text) replied_text (Err e) new
  RefusesValue told p (pooled_stack id) old UnknownId new = (map.get p.stacks id ≡ None) × (new ≡ old)
  RefusesValue told p (pooled_stack id) old (Refused e) new =
      (stack : List ℕ) × (map.get p.stacks id ≡ Some stack)
      × Outcome told old (intern_stack stack) replied_stack (Err e) new
  RefusesValue told p (list items) old error new = RefusesItem told p items old error new
  RefusesValue told p (pairs_map pairs) old error new = RefusesPair told p pairs old error new
  RefusesValue told p value old (Refused e) new = (e ≡ encode_errors.OutOfMemory) × (new ≡ old)
  RefusesValue told p value old error new = ⊥

  pub RefusesItem : {W : Type 0} → (W → Account) → Pools → Items → EncoderView W → ConvertError → EncoderView W
      → Type 0
  RefusesItem told p no_items old error new = ⊥
  RefusesItem {W} told p (item v items) old error new =
      (IsWant error × (new ≡ old))
      ⊎ (RefusesValue told p v old error new
      ⊎ ((w : Value) × (mid : EncoderView W) × ConvertsValue told p v old w mid
      × RefusesItem told p items mid error new))

  pub RefusesPair : {W : Type 0} → (W → Account) → Pools → Pairs → EncoderView W → ConvertError → EncoderView W
      → Type 0
  RefusesPair told p no_pairs old error new = ⊥
  RefusesPair {W} told p (pair x y pairs) old error new =
      (IsWant error × (new ≡ old))
      ⊎ (RefusesValue told p x old error new
      ⊎ ((v : Value) × (first : EncoderView W) × ConvertsValue told p x old v first
      × (RefusesValue told p y first error new
      ⊎ ((w : Value) × (mid : EncoderView W) × ConvertsValue told p y first w mid
      × RefusesPair told p pairs mid error new))))

-- the first fields that the rule keeps were converted
pub record ConvertsFirst {W : Type 0} (told : W → Account) (rule : Rule) (e : ShownEvent)
    (others : List (Bor (List ℕ) × Bor (List ℕ))) (old mid : EncoderView W) : Type 0 where
  pub names : List (Bor (List ℕ) × Bor (List ℕ))
  pub parts : rule.fields.now ≡ names ++ others
  pub kept : List (Field × Value)
  pub are_kept : AreKept e names kept
  pub values : List Value
  pub converted : ConvertsValues told e.pools (old_values kept) old values mid

-- the next field is not there
abbrev pub LacksField : {W : Type 0} → (W → Account) → Rule → ShownEvent → EncoderView W → EncoderView W → Type 0
LacksField told rule e old new =
    (names : Bor (List ℕ) × Bor (List ℕ)) × (others : List (Bor (List ℕ) × Bor (List ℕ)))
    × ConvertsFirst told rule e (names ∷ others) old new × (renamed e names ≡ None)

-- the next value was not converted
abbrev pub RefusesNext : {W : Type 0} → (W → Account) → Rule → ShownEvent → EncoderView W → ConvertError
    → EncoderView W → Type 0
RefusesNext {W} told rule e old error new =
    (names : Bor (List ℕ) × Bor (List ℕ)) × (others : List (Bor (List ℕ) × Bor (List ℕ))) × (mid : EncoderView W)
    × (x : Field × Value) × ConvertsFirst told rule e (names ∷ others) old mid × (renamed e names ≡ Some x)
    × RefusesValue told e.pools x.1 mid error new

-- all were, and the event was refused
pub record RefusesToWrite {W : Type 0} (told : W → Account) (rule : Rule) (e : ShownEvent) (old : EncoderView W)
    (error : EncodeError) (new : EncoderView W) : Type 0 where
  pub kept : List (Field × Value)
  pub are_kept : AreKept e rule.fields.now kept
  pub values : List Value
  pub mid : EncoderView W
  pub converted : ConvertsValues told e.pools (old_values kept) old values mid
  pub refused : Outcome told mid (write_event_at rule.slot (new_entry rule kept) e.time values) replied_done (Err error)
      new

-- a growth was refused after the first
abbrev pub WantsRoom : {W : Type 0} → (W → Account) → Rule → ShownEvent → EncoderView W → EncodeError
    → EncoderView W → Type 0
WantsRoom told rule e old error new = (error ≡ encode_errors.OutOfMemory)
    × ((others : List (Bor (List ℕ) × Bor (List ℕ))) × ConvertsFirst told rule e others old new)

-- why an event was not converted
abbrev pub RefusesEvent : {W : Type 0} → (W → Account) → Rule → ShownEvent → EncoderView W → ConvertError
    → EncoderView W → Type 0
RefusesEvent told rule e old NoField new = LacksField told rule e old new
RefusesEvent told rule e old UnknownId new = RefusesNext told rule e old UnknownId new
RefusesEvent told rule e old (Refused error) new =
    RefusesNext told rule e old (Refused error) new
    ⊎ (RefusesToWrite told rule e old error new ⊎ WantsRoom told rule e old error new)
