-- What two calls one after the other wrote, and the id of a text that is pooled twice.
use Rattle.std.proofs.Common.{◌≡◌, ℕ, List, [], ◌++◌, true, nat_eq, Result, Ok, Err, inr, refl, ap, subst, eq-eqb}
use Rattle.dial9_trace_format.specs.Words.{Account, AccountsJoinOnly, EncoderView, Action, intern_string, after}
use Rattle.dial9_trace_format.specs.Words.{Answered, Text, InternedString, HasPoolIds, InternedFirst, replied_text}
use Rattle.dial9_trace_format.specs.Words.{InternsTexts, ReadJoins, Outcome, replied_done, EncodeError, IsRead}
use Rattle.dial9_trace_format.specs.Words.{frames_of, WriterState}
use Rattle.user_words.specs.Ticks.{BothOutcome}

-- what the proofs take of the library
pub record JoiningLaws : Type 0 where
  pub accounts : AccountsJoinOnly
  pub reading : ReadJoins

-- an event was accepted, and then another was called for
pub both :
    {W : Type 0} (told : W → Account) (old mid new : EncoderView W) (a b : Action)
    (r : Result (Unit {0}) EncodeError) → JoiningLaws → Outcome told old a replied_done (Ok tt) mid →
    Outcome told mid b replied_done r new → BothOutcome told old a b r new
both told old mid new a b (Err e) laws p q = inr (mid, tt, p, q)
both told old mid new a b (Ok v) laws p q =
    let took = laws.accounts (told old.writer) (told mid.writer) (told new.writer) p.sent q.sent [] [] in
    let read = laws.reading old.state mid.state new.state p.sent q.sent (frames_of old.state a) in
    let second = subst (λ (x : WriterState). IsRead mid.state q.sent (frames_of x b) new.state) p.next q.read in
    record {
      sent = p.sent ++ q.sent;
      took = took p.took q.took;
      read = read (frames_of (after old.state a) b) p.read second;
    }

-- a text that is interned again, right after it was interned, has the same id
pub one_id :
    {last : WriterState} {second : List ℕ} {j : InternedString} → InternsTexts →
    (once : InternedFirst intern_string replied_text) → once.last ≡ once.mid → HasPoolIds once.start →
    Answered once.last (intern_string once.content) (Text j) second last → nat_eq once.id.0 j.0 ≡ true
one_id {last} {second} {j} interns once here ids again =
    eq-eqb once.id.0 j.0
    (ap (λ (k : InternedString). k.0) ((interns once once.content second j last ids again).same refl).0)
