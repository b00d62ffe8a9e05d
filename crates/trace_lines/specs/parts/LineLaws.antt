-- For private contracts: the laws of a line that is sent as it grows.
use Rattle.std.specs.Prelude.{◌≡◌, ℕ, List, [], ◌++◌, Result, Ok, Err, string_bytes}
use Rattle.std.proofs.Common.{refl, sym, ap, ◌∙◌, append-nil, append_assoc}
use Rattle.trace_values.specs.Sending.{Account}
use Rattle.trace_values.proofs.TwoStepsOfWriter.{TookOnly-none, TookOnly-join}
use Rattle.trace_lines.specs.SentLines.{Leaves, GoThrough}
use Rattle.trace_lines.specs.parts.SentLines.{LineGrows, unsent}
use Rattle.trace_lines.specs.declared.sent_lines.Lines.{Lines}
use Rattle.trace_lines.specs.declared.sent_lines.LineFault.{LineFault}
use Rattle.trace_lines.specs.declared.sent_lines.LineFault.TheVariants.{OutOfMemory, Unsent}

-- bytes after others, of which a front went
went_after :
    (start a b sent middle more rest : List ℕ) → start ++ a ≡ sent ++ middle → middle ++ b ≡ more ++ rest →
    start ++ (a ++ b) ≡ (sent ++ more) ++ rest
went_after start a b sent middle more rest first second =
    sym (append_assoc start a b) ∙ ap (λ (x : List ℕ). x ++ b) first ∙ append_assoc sent middle b
    ∙ ap (λ (x : List ℕ). sent ++ x) second ∙ sym (append_assoc sent more rest)

leaves_after :
    {x y : Account} {middle : List ℕ} (z : Account) (start a b rest : List ℕ) → Leaves x y (start ++ a) middle →
    Leaves y z (middle ++ b) rest → Leaves x z (start ++ (a ++ b)) rest
leaves_after {x} {y} {middle} z start a b rest first second = record {
  sent = first.sent ++ second.sent;
  took = TookOnly-join x y z first.sent second.sent [] [] first.took second.took;
  is = went_after start a b first.sent middle second.sent rest first.is second.is;
}

-- bytes go out after others
pub goes_after :
    {x y : Account} {middle : List ℕ} (z : Account) (start a b rest held : List ℕ) (r : Result (Unit {0}) LineFault) →
    Leaves x y (start ++ a) middle → GoThrough y z (middle ++ b) rest held r →
    GoThrough x z (start ++ (a ++ b)) rest held r
goes_after z start a b rest held (Ok u) first second = leaves_after z start a b rest first second
goes_after z start a b rest held (Err OutOfMemory) first (after, second) =
    (after, leaves_after z start a b (held ++ after) first second)
goes_after {x} {y} {middle} z start a b rest held (Err Unsent) first (more, (after, is), faults, few, fails) = (
  first.sent ++ more,
  (after, went_after start a b first.sent middle more after first.is is),
  faults,
  few,
  TookOnly-join x y z first.sent more [] faults first.took fails,
)

-- no text is appended by doing nothing
pub line_empty : {W : Type 0} (told : W → Account) (s : Lines W) → LineGrows told s [] (Ok tt) s
line_empty told s = record {
  same_writer = refl;
  bytes = record { sent = []; took = TookOnly-none (told s.out.now); is = append-nil (unsent s) };
}

-- a text is appended after another
pub line_joins :
    {W : Type 0} (told : W → Account) (s m t : Lines W) (a b : List ℕ) (r : Result (Unit {0}) LineFault) →
    LineGrows told s a (Ok tt) m → LineGrows told m b r t → LineGrows told s (a ++ b) r t
line_joins told s m t a b r first second = record {
  same_writer = second.same_writer ∙ first.same_writer;
  bytes = goes_after (told t.out.now) (unsent s) a b (unsent t) (string_bytes t.held) r first.bytes second.bytes;
}

front_longer :
    (whole b sent rest : List ℕ) → whole ≡ sent ++ rest → whole ++ b ≡ sent ++ (rest ++ b)
front_longer whole b sent rest is = ap (λ (x : List ℕ). x ++ b) is ∙ append_assoc sent rest b

stops_longer :
    (x y : Account) (start a b rest held : List ℕ) (e : LineFault) → GoThrough x y (start ++ a) rest held (Err e) →
    GoThrough x y (start ++ (a ++ b)) rest held (Err e)
stops_longer x y start a b rest held OutOfMemory (after, stopped) = (
  after ++ b,
  record {
    sent = stopped.sent;
    took = stopped.took;
    is = sym (append_assoc start a b) ∙ front_longer (start ++ a) b stopped.sent (held ++ after) stopped.is
        ∙ ap (λ (l : List ℕ). stopped.sent ++ l) (append_assoc held after b);
  },
)
stops_longer x y start a b rest held Unsent (sent, (after, is), faults, few, took) = (
  sent,
  (after ++ b, sym (append_assoc start a b) ∙ front_longer (start ++ a) b sent after is),
  faults,
  few,
  took,
)

-- where a text was not appended, no longer one was
pub line_stops :
    {W : Type 0} (told : W → Account) (s t : Lines W) (a b : List ℕ) (e : LineFault) →
    LineGrows told s a (Err e) t → LineGrows told s (a ++ b) (Err e) t
line_stops told s t a b e stopped = record {
  same_writer = stopped.same_writer;
  bytes = stops_longer (told s.out.now) (told t.out.now) (unsent s) a b (unsent t) (string_bytes t.held) e
      stopped.bytes;
}
