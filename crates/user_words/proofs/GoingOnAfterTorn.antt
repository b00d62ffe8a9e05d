-- Going on after a torn trace.
use Rattle.std.proofs.Common.{◌≡◌, ℕ, List, [], ◌∷◌, ◌++◌, Vec, Ok, Err, inr, refl, sym, ap, subst, ◌∙◌, append-nil}
use Rattle.std.specs.declared.alloc.Global.{Global}
use Rattle.dial9_trace_format.specs.Words.{Frame, Header, FrontOf, Action, Done, EncoderView, Outcome, replied_done}
use Rattle.dial9_trace_format.specs.Words.{EncodeError, frames_of, fresh_state, frames_played, Plays, IsResumed}
use Rattle.dial9_trace_format.specs.Words.{IsTraceOf, TracesJoin, FaultsAreFronts, frames_begun, TraceIsDecoded}
use Rattle.dial9_trace_format.specs.Words.{DecoderState, bytes_before, OpenedHasTaken, TakesMore, FrontGoesOn}
use Rattle.dial9_trace_format.specs.Words.{WholeStory, all_of_kind}
use Rattle.user_words.specs.Torn.{JoinsAfter, RefusesToJoin, PlainStory, told}

-- what the proof takes of the library
pub record FileLaws : Type 0 where
  pub goes_on : FrontGoesOn
  pub join : TracesJoin
  pub decoded : TraceIsDecoded

-- an event after a torn trace, and the next trace, are one file
pub one_file :
    {bytes : List ℕ} → FileLaws → (next : List ℕ) (a : Action) (d : DecoderState)
    (old new : EncoderView (Vec ℕ Global)) → IsResumed old.state d.grammar d.pools →
    old.writer.items ≡ bytes_before d → Outcome told old a replied_done (Ok tt) new →
    bytes ≡ new.writer.items ++ next → JoinsAfter d a next bytes
one_file {bytes} laws next a d old new resumed kept call whole torn kinds frames taken later y front h t =
    let x = old.state in
    let plays : Plays x (a ∷ []) (Done ∷ []) call.sent new.state =
    (new.state, call.sent, [], sym (append-nil call.sent), call.answer, (refl, refl)) in
    let g = laws.goes_on torn frames (record {
      decoder = d;
      frames = taken;
      kinds = kinds;
      took = h;
      start = x;
      resumed = resumed;
      calls = a ∷ [];
      replies = Done ∷ [];
      sent = call.sent;
      last = new.state;
      played = plays;
    }) front in
    let all = taken ++ frames_of x a in
    let output = ap (λ (b : List ℕ). b ++ call.sent) (sym kept) ∙ sym call.took.took.grows in
    let first : IsTraceOf new.writer.items all new.state =
    subst (λ (b : List ℕ). IsTraceOf b all new.state) output
    (subst (λ (fs : List Frame). IsTraceOf (bytes_before d ++ call.sent) (taken ++ fs) new.state)
    (append-nil (frames_of x a)) (g.trace tt)) in
    let both = laws.join new.writer.items next all later new.state y first t in
    record {
      front = g.front;
      at_call = x;
      last = y.grammar;
      decoded = laws.decoded bytes (all ++ (Header 1 ∷ later)) y
          (subst (λ (b : List ℕ). IsTraceOf b (all ++ (Header 1 ∷ later)) y) (sym whole) both.0);
    }

-- an encoder that goes on there refused the call
pub call_refused :
    (d : DecoderState) (kept : List ℕ) (a : Action) (e : EncodeError) (old new : EncoderView (Vec ℕ Global)) →
    IsResumed old.state d.grammar d.pools → old.writer.items ≡ kept → Outcome told old a replied_done (Err e) new →
    RefusesToJoin d kept a e
call_refused d kept a e old new resumed same call = inr (old, new, resumed, same, call)

-- ---- the story of readers of one kind, without faults

-- the whole story with readers of one kind, and without faults
pub plain_story : OpenedHasTaken → TakesMore → FaultsAreFronts → WholeStory → PlainStory
plain_story opened more fronts story calls later replies answers sent next c d y x z k first last taken all plays
    quiet
    parts o g is then none =
    let s = story c
    (record { calls = calls; replies = replies; sent = sent; last = y; played = plays; lost = d; parts = parts })
    (record {
      decoder = last;
      frames = taken;
      kinds = all_of_kind k taken;
      took = more c k first last [] [] taken (opened c first o) g;
      start = x;
      resumed = is;
      calls = later;
      replies = answers;
      sent = next;
      last = z;
      played = then;
    }) in
    let w = fronts fresh_state calls replies sent y plays in
    let same = w.same quiet in
    let begun : frames_begun fresh_state calls replies ≡ frames_played fresh_state calls replies =
    sym w.frames ∙ ap (λ (cs : List Action). frames_played fresh_state cs w.answers) same.0
    ∙ ap (λ rs. frames_played fresh_state calls rs) same.1 in
    (subst (λ (fs : List Frame). FrontOf taken fs) begun s.front, s.trace none, s.decoded none, s.sound)
