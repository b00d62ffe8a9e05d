-- The texts that tell how reading ended.
use Rattle.std.proofs.Common.{◌≡◌, ℕ, List, ◌++◌, codes, Result, Ok, Err, OnOk, ap, sym, subst, ◌∙◌}
use Rattle.std.proofs.Common.{append_assoc}
use Rattle.trace_fronts.specs.declared.whole.Stop.{Stop}
use Rattle.gotymbe_plan.specs.Numbers.{IsGrouped}
use Rattle.gotymbe_plan.specs.Endings.{AppendsStop, AppendsUnfinished, AppendsReason, AppendsLine}
use Rattle.gotymbe_plan.specs.Endings.{start_text, cause_text, error_text}
use Rattle.std.specs.declared.io.ErrorKind.{ErrorKind}
use Rattle.gotymbe_plan.specs.declared.ending.Ending.{Ending}
use Rattle.gotymbe_plan.specs.declared.ending.Ending.TheVariants.{Unread, Unwritten}

-- the place after what begins, and then the cause, are where a trace stops
pub stop_appended :
    {E : Type 0} (stop : Stop) (old a b new : List ℕ) (r : Result (Unit {0}) E) →
    a ≡ old ++ codes "stops at byte " → (place : List ℕ) × IsGrouped stop.place place × (b ≡ a ++ place) →
    OnOk r (new ≡ b ++ (codes ": " ++ cause_text stop.cause)) → OnOk r (AppendsStop stop old new)
stop_appended stop old a b new (Err e) begins placed is = is
stop_appended stop old a b new (Ok u) begins (place, grouped, b_is) is =
    let front = codes "stops at byte " in
    let last = codes ": " ++ cause_text stop.cause in (
      place,
      grouped,
      is ∙ ap (λ (x : List ℕ). x ++ last) (b_is ∙ ap (λ (x : List ℕ). x ++ place) begins ∙ append_assoc old front place)
          ∙ append_assoc old (front ++ place) last,
    )

-- the place after what begins is where the frame begins inside which an input ends
pub unfinished_appended :
    {E : Type 0} (begin : ℕ) (old a new : List ℕ) (r : Result (Unit {0}) E) →
    a ≡ old ++ codes "ends inside the frame at byte " →
    OnOk r ((place : List ℕ) × IsGrouped begin place × (new ≡ a ++ place)) → OnOk r (AppendsUnfinished begin old new)
unfinished_appended begin old a new (Err e) begins placed = placed
unfinished_appended begin old a new (Ok u) begins (place, grouped, is) =
    let front = codes "ends inside the frame at byte " in
    (place, grouped, is ∙ ap (λ (x : List ℕ). x ++ place) begins ∙ append_assoc old front place)

-- a reason after what begins, and then a line feed, are a line
pub line_appended :
    {E : Type 0} (name : List ℕ) (ending : Ending) (old a b new : List ℕ) (r : Result (Unit {0}) E) →
    a ≡ old ++ start_text name → AppendsReason ending a b → OnOk r (new ≡ b ++ codes "\n") →
    OnOk r (AppendsLine name ending old new)
line_appended name ending old a b new (Err e) begins reason is = is
line_appended name ending old a b new (Ok u) begins reason is =
    (b, subst (λ (x : List ℕ). AppendsReason ending x b) begins reason, is)

-- what is told of an error of the input, after what begins, is a reason
pub unread_appended :
    {E : Type 0} (ending : Ending) (kind : ErrorKind) (said old new : List ℕ) (r : Result (Unit {0}) E) →
    ending ≡ Unread kind → said ≡ error_text kind → OnOk r (new ≡ old ++ (codes "cannot be read: " ++ said)) →
    OnOk r (AppendsReason ending old new)
unread_appended ending kind said old new (Err e) ended same is = is
unread_appended ending kind said old new (Ok u) ended same is =
    subst (λ (e : Ending). AppendsReason e old new) (sym ended)
    (is ∙ ap (λ (t : List ℕ). old ++ (codes "cannot be read: " ++ t)) same)

-- the same of an error of the output
pub unwritten_appended :
    {E : Type 0} (ending : Ending) (kind : ErrorKind) (said old new : List ℕ) (r : Result (Unit {0}) E) →
    ending ≡ Unwritten kind → said ≡ error_text kind → OnOk r (new ≡ old ++ (codes "cannot be written: " ++ said)) →
    OnOk r (AppendsReason ending old new)
unwritten_appended ending kind said old new (Err e) ended same is = is
unwritten_appended ending kind said old new (Ok u) ended same is =
    subst (λ (e : Ending). AppendsReason e old new) (sym ended)
    (is ∙ ap (λ (t : List ℕ). old ++ (codes "cannot be written: " ++ t)) same)
