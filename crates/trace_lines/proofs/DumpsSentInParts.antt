-- What is told of a writer, over several sends of the parts of a dump.
use Rattle.std.proofs.Common.{◌≡◌, ℕ, List, [], ◌∷◌, ◌++◌, take, drop, Result, Ok, Err, IsErr, sym, ap, subst, ◌∙◌}
use Rattle.std.proofs.Common.{append_assoc, arith}
use Rattle.std.proofs.lemmas.List.{append-nil, take-append-drop}
use Rattle.std.specs.declared.io.ErrorKind.{ErrorKind}
use Rattle.trace_values.specs.Sending.{Account, TookOnly}
use Rattle.trace_values.proofs.TwoStepsOfWriter.{TookOnly-none, TookOnly-join}
use Rattle.trace_lines.specs.declared.dump.DumpForm.{DumpForm}
use Rattle.trace_lines.specs.Dumps.{IsDumpAs, BeginsDumpAs, PrintsUpToFault}
use Rattle.trace_lines.specs.parts.Sent.{Sends}

-- what was written, and how a dump goes on with that of a later place
pub record Sent (a b : Account) (dump next : ℕ → List ℕ → Type 0) : Type 0 where
  pub text : List ℕ
  pub took : TookOnly a b text []
  pub goes_on : (status : ℕ) (rest : List ℕ) → next status rest → dump status (text ++ rest)

pub nothing_sent : (a : Account) (dump : ℕ → List ℕ → Type 0) → Sent a a dump dump
nothing_sent a dump = record { text = []; took = TookOnly-none a; goes_on = λ status rest d. d }

-- one part more of a dump is sent
pub more_sent :
    {a b c : Account} {dump next : ℕ → List ℕ → Type 0} {line : List ℕ} (later : ℕ → List ℕ → Type 0) →
    Sent a b dump next → TookOnly b c line [] →
    ((status : ℕ) (rest : List ℕ) → later status rest → next status (line ++ rest)) → Sent a c dump later
more_sent {a} {b} {c} {dump} {line = line} later s h k = record {
  text = s.text ++ line;
  took = TookOnly-join a b c s.text line [] [] s.took h;
  goes_on = λ status rest d.
      subst (dump status) (sym (append_assoc s.text line rest)) (s.goes_on status (line ++ rest) (k status rest d));
}

-- the last part of a dump is sent
pub all_sent :
    {E : Type 0} {a b : Account} {dump next : ℕ → List ℕ → Type 0} (c : Account) (r : Result ℕ E) →
    Sent a b dump next → Sends b c next r → Sends a c dump r
all_sent {a = a} {b} c (Ok status) s k =
    (s.text ++ k.0, s.goes_on status k.0 k.1, TookOnly-join a b c s.text k.0 [] [] s.took k.2)
all_sent {a = a} {b} {dump} c (Err e) s k =
    let (written, (status, following, d), faults, few, took) = k in
    let goes_on = subst (dump status) (sym (append_assoc s.text written following))
    (s.goes_on status (written ++ following) d) in (
      s.text ++ written,
      (status, following, goes_on),
      faults,
      few,
      TookOnly-join a b c s.text written [] faults s.took took,
    )

-- a fault within a line, or before it
pub sent_in_part :
    {E : Type 0} {b c : Account} {kind : ErrorKind} (next : ℕ → List ℕ → Type 0) (r : Result ℕ E) (n status : ℕ)
    (line rest : List ℕ) → IsErr r → next status (line ++ rest) → TookOnly b c (take n line) (kind ∷ []) →
    Sends b c next r
sent_in_part next (Ok x) n status line rest i d h = absurd cc
sent_in_part {kind = kind} next (Err e) n status line rest i d h =
    let whole = ap (λ (t : List ℕ). t ++ rest) (sym (take-append-drop n line))
    ∙ append_assoc (take n line) (drop n line) rest in
    (take n line, (status, drop n line ++ rest, subst (next status) whole d), kind ∷ [], omega arith, h)

-- where nothing was sent a dump begins
pub sent_nothing :
    {E : Type 0} (b : Account) (next : ℕ → List ℕ → Type 0) (r : Result ℕ E) (status : ℕ) (text : List ℕ) → IsErr r →
    next status text → Sends b b next r
sent_nothing b next (Ok x) status text i d = absurd cc
sent_nothing b next (Err e) status text i d = ([], (status, text, d), [], omega arith, TookOnly-none b)

-- a dump of one kind is a dump of another
pub sends_as :
    {E : Type 0} (a b : Account) (dump other : ℕ → List ℕ → Type 0) (r : Result ℕ E) →
    ((status : ℕ) (text : List ℕ) → dump status text → other status text) → Sends a b dump r → Sends a b other r
sends_as a b dump other (Ok status) h s = (s.0, h status s.0 s.1, s.2)
sends_as a b dump other (Err e) h s =
    let (written, (status, following, d), faults, few, took) = s in
    (written, (status, following, h status (written ++ following) d), faults, few, took)

-- one line alone
pub only_line :
    {sent bytes old : List ℕ} (text : List ℕ) → sent ≡ bytes → bytes ≡ old ++ text → old ≡ [] → sent ++ [] ≡ text
only_line {sent} text s b o = append-nil sent ∙ s ∙ b ∙ ap (λ (x : List ℕ). x ++ text) o

-- a dump that was sent whole, and then not handed on, by a fault
pub front_unsettled :
    {b c : Account} {kind : ErrorKind} (a : Account) (form : DumpForm) (input : List ℕ) (status : ℕ) →
    (text : List ℕ) × IsDumpAs form input status text × TookOnly a b text [] → TookOnly b c [] (kind ∷ []) →
    PrintsUpToFault (BeginsDumpAs form input) a c
front_unsettled {b} {c} {kind} a form input status (text, d, sent) h =
    let whole = subst (IsDumpAs form input status) (sym (append-nil text)) d in
    let took = subst (λ (s : List ℕ). TookOnly a c s (kind ∷ [])) (append-nil text)
    (TookOnly-join a b c text [] [] (kind ∷ []) sent h) in
    (text, (status, [], whole), kind ∷ [], omega arith, took)
