-- What is held, and a line that is sent in parts.
use Rattle.std.proofs.Common.{◌≡◌, ℕ, List, [], ◌∷◌, ◌++◌, take, drop, Result, Ok, Err, sym, ap, subst, ◌∙◌}
use Rattle.std.proofs.Common.{append_assoc, append-nil, arith, string_bytes, String, Global}
use Rattle.std.proofs.lemmas.List.{take-append-drop}
use Rattle.std.specs.declared.io.ErrorKind.{ErrorKind}
use Rattle.trace_values.specs.Sending.{Account, TookOnly}
use Rattle.trace_values.proofs.TwoStepsOfWriter.{TookOnly-none, TookOnly-join}
use Rattle.trace_lines.specs.Dumps.{PrintsUpToFault}
use Rattle.trace_lines.specs.SentLines.{Leaves, BeginsWith, GoThrough}
use Rattle.trace_lines.specs.parts.SentLines.{GoOut, LineGrows, unsent}
use Rattle.trace_lines.specs.parts.LineLaws.{line_joins, goes_after}
use Rattle.trace_lines.specs.declared.sent_lines.Lines.{Lines}
use Rattle.trace_lines.specs.declared.sent_lines.LineFault.{LineFault}
use Rattle.trace_lines.specs.declared.sent_lines.LineFault.TheVariants.{OutOfMemory, Unsent}

-- a fault within what is held
pub failed_in_held :
    {a b : Account} {kind : ErrorKind} (n : ℕ) (held line : List ℕ) → TookOnly a b (take n held) (kind ∷ []) →
    PrintsUpToFault (BeginsWith ((held ++ line) ++ [])) a b
failed_in_held {kind = kind} n held line took =
    let is : (held ++ line) ++ [] ≡ take n held ++ (drop n held ++ line) =
    append-nil (held ++ line) ∙ ap (λ (x : List ℕ). x ++ line) (sym (take-append-drop n held))
    ∙ append_assoc (take n held) (drop n held) line in
    (take n held, (drop n held ++ line, is), kind ∷ [], omega arith, took)

-- a fault within the line
pub failed_in_line :
    {a b c : Account} {kind : ErrorKind} (n : ℕ) (held line : List ℕ) → TookOnly a b held [] →
    TookOnly b c (take n line) (kind ∷ []) →
    PrintsUpToFault (BeginsWith ((held ++ line) ++ [])) a c
failed_in_line {a} {b} {c} {kind} n held line sent took =
    let is : (held ++ line) ++ [] ≡ (held ++ take n line) ++ drop n line =
    append-nil (held ++ line) ∙ ap (λ (x : List ℕ). held ++ x) (sym (take-append-drop n line))
    ∙ sym (append_assoc held (take n line) (drop n line)) in (
      held ++ take n line,
      (drop n line, is),
      kind ∷ [],
      omega arith,
      TookOnly-join a b c held (take n line) [] (kind ∷ []) sent took,
    )

-- nothing is left of what was sent
pub all_sent_on :
    {a b c : Account} {none empty : List ℕ} (held line : List ℕ) → TookOnly a b held [] → TookOnly b c line [] →
    none ≡ [] → empty ≡ [] →
    Leaves a c ((held ++ line) ++ []) (none ++ empty)
all_sent_on {a} {b} {c} {empty = empty} held line first second n e = record {
  sent = held ++ line;
  took = TookOnly-join a b c held line [] [] first second;
  is = ap (λ (x : List ℕ). (held ++ line) ++ x) (sym (ap (λ (x : List ℕ). x ++ empty) n ∙ e));
}

-- a line that was not there yet
pub from_nothing :
    {line : List ℕ} (a b : Account) (held text rest new : List ℕ) (r : Result (Unit {0}) LineFault) → line ≡ [] →
    GoThrough a b ((held ++ line) ++ text) rest new r → GoThrough a b (held ++ text) rest new r
from_nothing a b held text rest new r none went =
    subst (λ (x : List ℕ). GoThrough a b (x ++ text) rest new r)
    (ap (λ (x : List ℕ). held ++ x) none ∙ append-nil held) went

-- the line is held, too
pub line_held :
    {a b : Account} {whole rest new : List ℕ} → new ≡ rest → Leaves a b whole rest → Leaves a b whole new
line_held {a} {b} {whole} is left = subst (λ (x : List ℕ). Leaves a b whole x) (sym is) left

-- or it is not
pub line_not_held :
    {a b : Account} {whole held new : List ℕ} (line : List ℕ) → new ≡ held → Leaves a b whole (held ++ line) →
    (after : List ℕ) × Leaves a b whole (new ++ after)
line_not_held {a} {b} {whole} line is left =
    (line, subst (λ (x : List ℕ). Leaves a b whole (x ++ line)) (sym is) left)

-- a part that is refused leaves what was there
pub part_refused :
    (a : Account) (held line text : List ℕ) → (after : List ℕ) × Leaves a a ((held ++ line) ++ text) (held ++ after)
part_refused a held line text =
    (line ++ text, record { sent = []; took = TookOnly-none a; is = append_assoc held line text })

-- where it was not appended it is no matter what is left
pub not_appended :
    (a b : Account) (whole rest other held : List ℕ) (e : LineFault) → GoThrough a b whole rest held (Err e) →
    GoThrough a b whole other held (Err e)
not_appended a b whole rest other held OutOfMemory went = went
not_appended a b whole rest other held Unsent went = went

-- a part, and then all is sent
pub put_and_sent :
    {W : Type 0} (told : W → Account) (s m t : Lines W) (text : List ℕ) (r : Result (Unit {0}) LineFault) →
    LineGrows told s text (Ok tt) m → LineGrows told m [] r t → LineGrows told s text r t
put_and_sent told s m t text r first second =
    subst (λ (x : List ℕ). LineGrows told s x r t) (append-nil text) (line_joins told s m t text [] r first second)

-- ---- a text after what is held

-- a text was not made: what was held before stays, or it went to the writer in part
pub text_fails :
    {W : Type 0} (told : W → Account) (s m : Lines W) (l : String Global) (text : List ℕ) (f : LineFault) →
    string_bytes l ≡ [] → LineGrows told (record s { line = l }) text (Err f) m →
    GoOut told s m (string_bytes s.held ++ text) (string_bytes m.held) (Err f)
text_fails told s m l text f none went =
    let held = string_bytes m.held in
    let a = told s.out.now in
    let b = told m.out.now in
    let before = string_bytes s.held in
    record {
      same_writer = went.same_writer;
      bytes = not_appended a b (before ++ text) (unsent m) held held f
          (from_nothing a b before text (unsent m) held (Err f) none went.bytes);
    }

-- a text was made
pub text_made :
    {W : Type 0} (told : W → Account) (s m : Lines W) (l : String Global) (text : List ℕ) → string_bytes l ≡ [] →
    LineGrows told (record s { line = l }) text (Ok tt) m →
    GoOut told s m (string_bytes s.held ++ text) (unsent m) (Ok tt)
text_made told s m l text none went = record {
  same_writer = went.same_writer;
  bytes = from_nothing (told s.out.now) (told m.out.now) (string_bytes s.held) text (unsent m) (string_bytes m.held)
      (Ok tt) none went.bytes;
}

-- and then held
pub text_held :
    {W : Type 0} (told : W → Account) (s m : Lines W) (h : String Global) (text : List ℕ) →
    GoOut told s m (string_bytes s.held ++ text) (unsent m) (Ok tt) → string_bytes h ≡ unsent m →
    GoOut told s (record m { held = h }) (string_bytes s.held ++ text) (string_bytes h) (Ok tt)
text_held told s m h text made is =
    record { same_writer = made.same_writer; bytes = line_held is made.bytes }

-- or not, where a growth was refused
pub text_not_held :
    {W : Type 0} (told : W → Account) (s m : Lines W) (h : String Global) (text : List ℕ) →
    GoOut told s m (string_bytes s.held ++ text) (unsent m) (Ok tt) → string_bytes h ≡ string_bytes m.held →
    GoOut told s (record m { held = h }) (string_bytes s.held ++ text) (string_bytes h) (Err OutOfMemory)
text_not_held told s m h text made is =
    record { same_writer = made.same_writer; bytes = line_not_held (string_bytes m.line) is made.bytes }

-- ---- lines that go out later

-- what is held after a text goes out
pub held_goes_on :
    {a b : Account} (c : Account) {whole middle : List ℕ} (rest : List ℕ) (r : Result (Unit {0}) LineFault) →
    Leaves a b whole middle → GoThrough b c (middle ++ []) rest rest r → GoThrough a c whole rest rest r
held_goes_on {a} {b} c {whole} {middle} rest r first second =
    subst (λ (x : List ℕ). GoThrough a c x rest rest r) (append-nil whole)
    (goes_after c whole [] [] rest rest r
    (subst (λ (x : List ℕ). Leaves a b x middle) (sym (append-nil whole)) first) second)

-- nothing is left
pub held_sent :
    {a b : Account} {none : List ℕ} (held : List ℕ) → TookOnly a b held [] → none ≡ [] →
    Leaves a b (held ++ []) none
held_sent held took n =
    record { sent = held; took = took; is = ap (λ (x : List ℕ). held ++ x) (sym n) }

-- a fault
pub held_unsent :
    {a b : Account} {kind : ErrorKind} (n : ℕ) (held : List ℕ) → TookOnly a b (take n held) (kind ∷ []) →
    PrintsUpToFault (BeginsWith (held ++ [])) a b
held_unsent {kind = kind} n held took =
    (take n held, (drop n held, append-nil held ∙ sym (take-append-drop n held)), kind ∷ [], omega arith, took)
