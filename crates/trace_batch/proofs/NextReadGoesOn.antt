-- What is read with the state that was handed out goes on where the reading before it ended.
use Rattle.std.proofs.Common.{◌≡◌, ℕ, ◌+◌, List, [], ◌++◌, length, take, drop, refl, sym, ap, subst, ◌∙◌, arith}
use Rattle.std.proofs.Common.{append_assoc, take-append-drop, inl, inr}
use Rattle.std.proofs.lemmas.List.{append-nil, length-append, drop_at}
use Rattle.trace_values.specs.Values.{borrowed}
use Rattle.trace_wire.specs.Frames.{Grammar, empty, Frame, header_length}
use Rattle.trace_wire.specs.Runs.{IsRun, all_of_kind, Whole, IsLongest, no_pools, pools_after}
use Rattle.trace_wire.specs.Laws.{Found}
use Rattle.trace_wire.proofs.OneLongestRun.{same_longest, same_kind_continuation}
use Rattle.trace_batch.specs.ReadBatches.{IsState, StartsAt}
use Rattle.trace_batch.specs.ReadLaws.{AreOne, ReadsGoOn}
use Rattle.trace_batch.proofs.FramesTaken.{run_more}

whole : (bytes : List ℕ) (v : ℕ) (fs : List Frame) (g : Grammar) → IsState bytes v fs g
    → IsLongest borrowed empty (drop header_length bytes) fs [] Whole g
whole bytes v fs g s = record {
  taken = drop header_length bytes;
  parts = sym (append-nil (drop header_length bytes));
  run = s.run;
  ends = refl;
}

-- a state says one thing
one_state : (bytes : List ℕ) (v w : ℕ) (fs gs : List Frame) (g h : Grammar) → IsState bytes v fs g
    → IsState bytes w gs h → (fs ≡ gs) × (g ≡ h)
one_state bytes v w fs gs g h s t =
    let same = same_longest fs gs (whole bytes v fs g s) (whole bytes w gs h t) in
    (same.0, same.3)

-- what is left after as many bytes as were read
left_is : (trace taken rest : List ℕ) (place n : ℕ) → drop place trace ≡ taken ++ rest → n + length rest ≡ length trace
    → drop n trace ≡ rest
left_is trace taken rest place n parts many =
    let split : trace ≡ (take place trace ++ taken) ++ rest =
    sym (take-append-drop place trace) ∙ ap (λ (l : List ℕ). take place trace ++ l) parts
    ∙ sym (append_assoc (take place trace) taken rest) in
    ap (drop n) split
    ∙ drop_at (take place trace ++ taken) rest n
    (omega (arith, many, ap length split, length-append (take place trace ++ taken) rest))

-- reading goes on where it ended
pub reads_go_on : ReadsGoOn
reads_go_on state trace most more a b x y headless = by_start y.starts
  where
    by_start : StartsAt a.state.items (drop a.length trace) y.version y.known y.start y.place → AreOne x y
    by_start (inl (starts, none, first, at)) = absurd (headless y.version starts)
    by_start (inr (none, is, at)) =
        let same = one_state a.state.items y.version x.version y.known x.reads.kept y.start x.reads.last is
        x.reads.state in
        let left : x.reads.rest ≡ y.reads.taken ++ y.reads.rest =
        sym (left_is trace x.reads.taken x.reads.rest x.place a.length x.reads.parts x.reads.length_is)
        ∙ ap (λ (n : ℕ). drop n (drop a.length trace)) (sym at) ∙ y.reads.parts in
        let later = subst (λ (g : Grammar). IsRun (all_of_kind borrowed y.reads.frames) g y.reads.taken y.reads.frames
        y.reads.last) same.1 y.reads.run in
        let both = run_more x.start x.reads.last y.reads.last x.reads.taken y.reads.taken x.reads.frames
        y.reads.frames x.reads.run later in
        let parts : drop x.place trace ≡ (x.reads.taken ++ y.reads.taken) ++ y.reads.rest =
        x.reads.parts ∙ ap (λ (l : List ℕ). x.reads.taken ++ l) left
        ∙ sym (append_assoc x.reads.taken y.reads.taken y.reads.rest) in
        record {
          parts = parts;
          run = both;
          longest = λ end ends.
              let found : Found borrowed x.reads.last (y.reads.taken ++ y.reads.rest) = record {
                frames = y.reads.frames;
                rest = y.reads.rest;
                end = end;
                last = y.reads.last;
                is = record { taken = y.reads.taken; parts = refl; run = later; ends = ends };
              } in
              subst (λ (l : List ℕ). IsLongest borrowed x.start l (x.reads.frames ++ y.reads.frames) y.reads.rest end
              y.reads.last)
              (sym (parts ∙ append_assoc x.reads.taken y.reads.taken y.reads.rest))
              (same_kind_continuation borrowed x.start x.reads.taken (y.reads.taken ++ y.reads.rest) (record {
                kinds = all_of_kind borrowed x.reads.frames;
                frames = x.reads.frames;
                last = x.reads.last;
                is = x.reads.run;
              }) found refl);
          start = same.1;
          pools = ap (pools_after no_pools) same.0 ∙ x.reads.pools;
        }
