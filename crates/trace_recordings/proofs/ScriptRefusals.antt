-- Why a script was not played, from the call at which playing stopped.
use Rattle.std.proofs.Common.{◌≡◌, ℕ, zero, suc, ◌+◌, ◌<◌, true, false, List, [], ◌∷◌, ◌++◌, length, take, get_or}
use Rattle.std.proofs.Common.{Result, Ok, Err, IfErr, Vec, refl, sym, ap, subst, ◌∙◌, arith}
use Rattle.std.specs.List.{AllByRecursion}
use Rattle.std.proofs.lemmas.List.{take_more}
use Rattle.trace_recordings.specs.declared.player.PlayError.{PlayError}
use Rattle.trace_recordings.specs.declared.player.PlayError.TheVariants as plays
use Rattle.std.specs.declared.alloc.Global.{Global}
use Rattle.trace_values.specs.declared.types.field_value.FieldValue.{FieldValue}
use Rattle.trace_values.proofs.OptionsAndBytes.{all_append}
use Rattle.trace_recordings.specs.declared.script.definitions.Definition.{Definition}
use Rattle.trace_recordings.specs.declared.script.call.ScriptCall.{ScriptCall}
use Rattle.trace_recordings.specs.declared.script.call.ScriptCall.TheVariants.{DefineType, WriteTyped, Resume}
use Rattle.trace_recordings.specs.Playing.{Defined, Playing, TurnsEach, start}
use Rattle.trace_recordings.specs.Refusals.{FirstMissing, IsHad, IsOfPlayer, IsUnheld, LacksHeader, LacksType}
use Rattle.trace_recordings.specs.Refusals.{LeavesOut, MissesAt, NamesNone, RefusesScript, RefusesCall, RefusesUnder}
use Rattle.trace_recordings.specs.Refusals.{ResumesHeadless, StopsAtLine, WritesTyped, misses}
use Rattle.trace_recordings.specs.Scripts.{IsScript, word_of}
use Rattle.trace_recordings.specs.Tallies.{counted_up}

-- one more that the library has
pub had_more :
    (calls : List ScriptCall) (i : ℕ) (call : ScriptCall) → i < length calls → call ≡ get_or calls i call →
    AllByRecursion IsHad (take i calls) → misses call ≡ false → AllByRecursion IsHad (take (i + 1) calls)
had_more calls i call inside is all had =
    rw (take_more calls i call inside, ← is) (all_append IsHad (take i calls) (call ∷ []) all (had, tt))

-- each of those that the library has
had_at :
    (calls : List ScriptCall) (i : ℕ) (call : ScriptCall) → i < length calls → call ≡ get_or calls i call →
    AllByRecursion IsHad calls → misses call ≡ false
had_at [] i call inside is all = absurd (omega (arith, inside))
had_at (c ∷ calls) zero call inside is all = ap misses is ∙ all.0
had_at (c ∷ calls) (suc i) call inside is all = had_at calls i call (omega (arith, inside)) is all.1

-- a call, with those before and after it
parts_at :
    (calls : List ScriptCall) (i : ℕ) (call : ScriptCall) → i < length calls → call ≡ get_or calls i call →
    (after : List ScriptCall) × (calls ≡ take i calls ++ call ∷ after)
parts_at [] i call inside is = absurd (omega (arith, inside))
parts_at (c ∷ calls) zero call inside is = (calls, ap (λ x. x ∷ calls) (sym is))
parts_at (c ∷ calls) (suc i) call inside is =
    let later = parts_at calls i call (omega (arith, inside)) is in
    (later.0, ap (λ x. c ∷ x) later.1)

front_length : (calls : List ScriptCall) (i : ℕ) → i < length calls → length (take i calls) ≡ i
front_length [] i inside = absurd (omega (arith, inside))
front_length (c ∷ calls) zero inside = refl
front_length (c ∷ calls) (suc i) inside = omega (arith, front_length calls i (omega (arith, inside)))

counted :
    (calls : List ScriptCall) (i line : ℕ) → i < length calls → line ≡ counted_up i 1 →
    line ≡ counted_up (length (take i calls)) 1
counted calls i line inside n = n ∙ ap (λ (k : ℕ). counted_up k 1) (sym (front_length calls i inside))

-- the call of an index, which is that of a line
pub record StandsAt (calls : List ScriptCall) (i line : ℕ) (call : ScriptCall) : Type 0 where
  pub inside : i < length calls
  pub is : call ≡ get_or calls i call
  pub counts : line ≡ counted_up i 1

under_line :
    {calls : List ScriptCall} {i line other : ℕ} {call : ScriptCall} → other ≡ line → StandsAt calls i line call →
    StandsAt calls i other call
under_line same s = record { inside = s.inside; is = s.is; counts = same ∙ s.counts }

first_missing :
    {calls : List ScriptCall} {i line : ℕ} {call : ScriptCall} (word : List ℕ) → StandsAt calls i line call →
    AllByRecursion IsHad (take i calls) → misses call ≡ true → word ≡ word_of call → FirstMissing calls line word
first_missing {calls} {i} {line} {call} word stands had missing w =
    let parts = parts_at calls i call stands.inside stands.is in
    record {
      before = take i calls;
      call = call;
      after = parts.0;
      parts = parts.1;
      had = had;
      missing = missing;
      counts = counted calls i line stands.inside stands.counts;
      word_is = w;
    }

-- a call of a type that is not had leaves the script out
pub left_out_at :
    {calls : List ScriptCall} {i line : ℕ} {call : ScriptCall} (e : PlayError) → StandsAt calls i line call →
    AllByRecursion IsHad (take i calls) → MissesAt line call e → LeavesOut calls e
left_out_at (plays.Script error) stands had r = absurd r
left_out_at (plays.LeftOut other word) stands had r =
    first_missing word.now (under_line r.0 stands) had r.2 r.1
left_out_at (plays.Unknown other handle) stands had r = absurd r
left_out_at (plays.Unheld other) stands had r = absurd r
left_out_at (plays.Headless other) stands had r = absurd r
left_out_at (plays.Encoder error) stands had r = absurd r
left_out_at plays.Memory stands had r = tt

stops_at :
    {calls : List ScriptCall} {i line : ℕ} {call : ScriptCall} (reached : Playing)
    (why : Playing → ScriptCall → Type 0) →
    AllByRecursion IsHad calls → StandsAt calls i line call → TurnsEach start (take i calls) reached →
    why reached call → StopsAtLine calls line why
stops_at {calls} {i} {line} {call} reached why had stands turns so =
    let parts = parts_at calls i call stands.inside stands.is in
    record {
      before = take i calls;
      call = call;
      after = parts.0;
      parts = parts.1;
      had = had;
      counts = counted calls i line stands.inside stands.counts;
      reached = reached;
      turns = turns;
      is_so = so;
    }

-- a call was not made
pub not_made :
    {calls : List ScriptCall} {i line : ℕ} {call : ScriptCall} (text : List ℕ) (reached : Playing) (e : PlayError) →
    IsScript calls text → AllByRecursion IsHad calls → StandsAt calls i line call →
    TurnsEach start (take i calls) reached → RefusesCall reached line call e → RefusesScript text e
not_made text reached (plays.Script error) script had stands turns r = absurd r
not_made {calls} {i} {call = call} text reached (plays.LeftOut other word) script had stands turns r =
    absurd (let wrong : true ≡ false = sym r ∙ had_at calls i call stands.inside stands.is had in cc)
not_made {calls} text reached (plays.Unknown other handle) script had stands turns r = (
  calls,
  script,
  stops_at reached (λ p c. NamesNone p.defined c handle) had (under_line r.0 stands) turns r.1,
)
not_made {calls} text reached (plays.Unheld other) script had stands turns r =
    (calls, script, stops_at reached (λ p c. WritesTyped c) had (under_line r.0 stands) turns r.1)
not_made {calls} text reached (plays.Headless other) script had stands turns r =
    (calls, script, stops_at reached ResumesHeadless had (under_line r.0 stands) turns r.1)
not_made text reached (plays.Encoder error) script had stands turns r = tt
not_made text reached plays.Memory script had stands turns r = tt

-- the script was not begun
pub not_begun :
    (text : List ℕ) (calls : List ScriptCall) (e : PlayError) → IsScript calls text → LeavesOut calls e →
    RefusesScript text e
not_begun text calls (plays.Script error) script r = absurd r
not_begun text calls (plays.LeftOut line word) script r = (calls, script, r)
not_begun text calls (plays.Unknown line handle) script r = absurd r
not_begun text calls (plays.Encoder error) script r = absurd r
not_begun text calls (plays.Unheld line) script r = absurd r
not_begun text calls (plays.Headless line) script r = absurd r
not_begun text calls plays.Memory script r = tt

-- no player was made
pub no_player : (text : List ℕ) (e : PlayError) → IsOfPlayer e → RefusesScript text e
no_player text (plays.Script error) r = absurd r
no_player text (plays.LeftOut line word) r = absurd r
no_player text (plays.Unknown line handle) r = absurd r
no_player text (plays.Unheld line) r = absurd r
no_player text (plays.Headless line) r = absurd r
no_player text (plays.Encoder error) r = tt
no_player text plays.Memory r = tt

-- the player had no memory for a call
pub no_memory :
    (defined : Defined) (line : ℕ) (call : ScriptCall) (e : PlayError) → IsOfPlayer e
    → RefusesUnder defined line call e
no_memory defined line call (plays.Script error) r = absurd r
no_memory defined line call (plays.LeftOut other word) r = absurd r
no_memory defined line call (plays.Unknown other handle) r = absurd r
no_memory defined line call (plays.Unheld other) r = absurd r
no_memory defined line call (plays.Headless other) r = absurd r
no_memory defined line call (plays.Encoder error) r = tt
no_memory defined line call plays.Memory r = tt

-- what the definitions alone tell
pub under_definitions :
    (p : Playing) (line : ℕ) (call : ScriptCall) (e : PlayError) → RefusesUnder p.defined line call e →
    RefusesCall p line call e
under_definitions p line call (plays.Script error) r = r
under_definitions p line call (plays.LeftOut other word) r = r
under_definitions p line call (plays.Unknown other handle) r = r
under_definitions p line call (plays.Unheld other) r = r
under_definitions p line call (plays.Headless other) r = absurd r
under_definitions p line call (plays.Encoder error) r = r
under_definitions p line call plays.Memory r = r

-- the output has no header
pub lacks_header :
    (p : Playing) (line : ℕ) (call : ScriptCall) (e : PlayError) → call ≡ Resume → LacksHeader line p.bytes e →
    RefusesCall p line call e
lacks_header p line call (plays.Script error) is r = absurd r
lacks_header p line call (plays.LeftOut other word) is r = absurd r
lacks_header p line call (plays.Unknown other name) is r = absurd r
lacks_header p line call (plays.Unheld other) is r = absurd r
lacks_header p line call (plays.Headless other) is r = (r.0, subst (ResumesHeadless p) (sym is) r.1)
lacks_header p line call (plays.Encoder error) is r = absurd r
lacks_header p line call plays.Memory is r = tt

-- an error of the player itself refuses the call
pub no_memory_in :
    {A : Type 0} (r : Result A PlayError) (p : Playing) (line : ℕ) (call : ScriptCall) → IfErr r IsOfPlayer →
    IfErr r (RefusesCall p line call)
no_memory_in (Ok u) p line call h = tt
no_memory_in (Err e) p line call h = under_definitions p line call e (no_memory p.defined line call e h)

-- no sample type is so defined
pub lacks_type :
    (p : Playing) (line : ℕ) (call : ScriptCall) (handle slot : ℕ) (definition : Definition) (e : PlayError) →
    call ≡ DefineType handle slot definition → LacksType line slot definition e → RefusesCall p line call e
lacks_type p line call handle slot definition (plays.Script error) is r = absurd r
lacks_type p line call handle slot definition (plays.LeftOut other word) is r = ap misses is ∙ r
lacks_type p line call handle slot definition (plays.Unknown other name) is r = absurd r
lacks_type p line call handle slot definition (plays.Unheld other) is r = absurd r
lacks_type p line call handle slot definition (plays.Headless other) is r = absurd r
lacks_type p line call handle slot definition (plays.Encoder error) is r = absurd r
lacks_type p line call handle slot definition plays.Memory is r = tt

-- the values of an event were not taken
pub unheld :
    (defined : Defined) (line : ℕ) (call : ScriptCall) (handle time : ℕ) (values : Vec FieldValue Global)
    (e : PlayError) → call ≡ WriteTyped handle time values → IsUnheld line e → RefusesUnder defined line call e
unheld defined line call handle time values (plays.Script error) is r = absurd r
unheld defined line call handle time values (plays.LeftOut other word) is r = absurd r
unheld defined line call handle time values (plays.Unknown other name) is r = absurd r
unheld defined line call handle time values (plays.Unheld other) is r = (r, subst WritesTyped (sym is) tt)
unheld defined line call handle time values (plays.Headless other) is r = absurd r
unheld defined line call handle time values (plays.Encoder error) is r = absurd r
unheld defined line call handle time values plays.Memory is r = tt
