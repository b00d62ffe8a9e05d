-- Lines of JSON that are sent as they grow.
use Rattle.std.proofs.Common.{◌≡◌, ℕ, ◌+◌, ◌≤◌, Bool, true, false, length, take, drop, List, [], ◌∷◌, ◌++◌, fold}
use Rattle.std.proofs.Common.{Result, Ok, Err, IfErr, OnOk, refl, sym, ap, subst, ◌∙◌, append_assoc, append-nil, arith}
use Rattle.std.proofs.lemmas.List.{drop-append-le, length-append, take-append-drop}
use Rattle.std.proofs.lemmas.List.Sums.{fold-append}
use Rattle.json.specs.Json.{Json, null, boolean, number, string, array, object, Items, no_items, item}
use Rattle.json.specs.Json.{Members, no_members, member}
use Rattle.json.specs.Print.{ends, ends_value, print, print_from}
use Rattle.json.specs.Token.{Token, end_array}
use Rattle.json.specs.Tree.{json_tokens, items_tokens, members_tokens}
use Rattle.json.specs.Written.{Written}
use Rattle.json.proofs.Printed.Tokens.{print_from-append}
use Rattle.trace_values.specs.Sending.{Account, TookOnly}
use Rattle.trace_values.proofs.TwoStepsOfWriter.{TookOnly-none, TookOnly-join}
use Rattle.std.specs.declared.io.ErrorKind.{ErrorKind}
use Rattle.trace_json.specs.Lines.{json_text, line_feed}
use Rattle.trace_json.specs.Sending.{HeldFails, LineFails, SendsLine}
use Rattle.trace_json.specs.parts.Growing.{GrowsOne, PutsBy, PutsOneBy}
use Rattle.trace_json.specs.parts.GrowingLaws.{nothing_printed, sent_carries, sent_joins}
use Rattle.trace_json.specs.parts.SentJson.{IsReady, JsonFails, JsonGrows, SendsBytes, SendsSome, faults_of, left_of}
use Rattle.trace_json.specs.parts.SentJson.{not_sent, standing_for}
use Rattle.trace_json.specs.declared.growing.SentJson.{SentJson}
use Rattle.trace_json.specs.declared.growing.LineError.{LineError}
use Rattle.trace_json.specs.declared.growing.LineError.TheVariants.{OutOfMemory, Writer}
use Rattle.trace_json.specs.declared.sending.JsonLines.{JsonLines}

-- ---- the last token of JSON ends a value

mutual
  pub json_ends : (j : Json) (c : Bool) → fold (λ _ t. ends t) c (json_tokens j) ≡ true
  json_ends null c = refl
  json_ends (boolean b) c = refl
  json_ends (number s) c = refl
  json_ends (string s) c = refl
  json_ends (array js) c = items_end js false
  json_ends (object ms) c = members_end ms false

  items_end : (js : Items) (c : Bool) → fold (λ _ t. ends t) c (items_tokens js) ≡ true
  items_end no_items c = refl
  items_end (item j js) c =
      fold-append (λ _ t. ends t) c (json_tokens j) (items_tokens js)
      ∙ items_end js (fold (λ _ t. ends t) c (json_tokens j))

  members_end : (ms : Members) (c : Bool) → fold (λ _ t. ends t) c (members_tokens ms) ≡ true
  members_end no_members c = refl
  members_end (member k j ms) c =
      fold-append (λ _ t. ends t) false (json_tokens j) (members_tokens ms)
      ∙ members_end ms (fold (λ _ t. ends t) false (json_tokens j))

-- after the tokens of a JSON a value has ended
pub value_ends :
    (old new : List Token) (j : Json) → new ≡ old ++ json_tokens j → ends_value new ≡ true
value_ends old new j put =
    ap ends_value put ∙ fold-append (λ _ t. ends t) false old (json_tokens j) ∙ json_ends j (ends_value old)

-- ---- tokens are put

longer : (k : ℕ) (xs ys : List ℕ) → k ≤ length xs → k ≤ length (xs ++ ys)
longer k xs ys le =
    let n : length (xs ++ ys) ≡ length xs + length ys = length-append xs ys in omega arith

-- tokens were put, and nothing was sent
pub put_on :
    {W : Type 0} (told : W → Account) (s : SentJson W) (w : Written) (n : ℕ) (tokens : List Token) →
    w.tokens ≡ s.writer.tokens ++ tokens → w.before ≡ s.writer.before →
    JsonGrows told s tokens (record s { writer = w; weight = n })
put_on told s w n tokens put stays ready =
    let old = s.writer.tokens in
    let k = standing_for s.goes_on in
    let more = print_from (ends_value old) tokens in
    let printed : print w.tokens ≡ print old ++ more = ap print put ∙ print_from-append false old tokens in
    record {
      same_writer = refl;
      ready = record {
        before = stays ∙ ready.before;
        stands = subst (λ (x : List ℕ). k ≤ length x) (sym printed) (longer k (print old) more ready.stands);
      };
      ends_so = ap ends_value put ∙ fold-append (λ _ t. ends t) false old tokens;
      sends = record {
        sent = [];
        took = TookOnly-none (told s.out.now);
        all = append_assoc s.held.items (left_of s) more
            ∙ ap (λ (x : List ℕ). s.held.items ++ x)
            (sym (ap (drop k) printed ∙ drop-append-le k (print old) more ready.stands));
      };
    }

-- a growth was refused
pub not_put :
    {W : Type 0} (told : W → Account) (s : SentJson W) (w : Written) (n : ℕ) →
    JsonFails told s OutOfMemory (record s { writer = w; weight = n })
not_put told s w n ready = record {
  same_writer = refl;
  tokens = [];
  sends = record {
    sent = [];
    others = not_sent s ++ print_from (ends_value s.writer.tokens) [];
    took = TookOnly-none (told s.out.now);
    all = refl;
  };
}

-- JSON was put, and then all was sent
pub one_sent_on :
    {W : Type 0} (told : W → Account) (is : Json → Type 0) (s m t : SentJson W) (j : Json)
    (r : Result (Unit {0}) LineError) → is j → JsonGrows told s (json_tokens j) m →
    PutsBy (JsonGrows told) (JsonFails told) [] m t r → PutsOneBy (JsonGrows told) (JsonFails told) is s t r
one_sent_on told is s m t j (Ok u) so first second = record {
  json = j;
  is_so = so;
  grown = subst (λ (x : List Token). JsonGrows told s x t) (append-nil (json_tokens j))
      (sent_joins told s m t (json_tokens j) [] first second);
}
one_sent_on told is s m t j (Err e) so first second = sent_carries told s m t (json_tokens j) e first second

-- ---- a front of a line is sent

-- what the line goes on with
pub record IsNewLine {W : Type 0} (t : SentJson W) : Type 0 where
  pub tokens : t.writer.tokens ≡ end_array ∷ []
  pub before : t.writer.before ≡ []
  pub goes_on : t.goes_on ≡ true
  pub held : t.held.items ≡ []

bracket_printed : print (end_array ∷ []) ≡ 93 ∷ []
unfolding print_from
bracket_printed = refl

bracket_stands : {W : Type 0} (t : SentJson W) → IsNewLine t → standing_for t.goes_on ≤ length (print t.writer.tokens)
bracket_stands t new =
    let le : 1 ≤ length (print (end_array ∷ [])) =
    subst (λ (x : List ℕ). 1 ≤ length x) (sym bracket_printed) (omega arith) in
    let at : standing_for true ≤ length (print t.writer.tokens) =
    subst (λ (ts : List Token). 1 ≤ length (print ts)) (sym new.tokens) le in
    subst (λ (b : Bool). standing_for b ≤ length (print t.writer.tokens)) (sym new.goes_on) at

nothing_left : {W : Type 0} (t : SentJson W) → IsNewLine t → not_sent t ≡ []
nothing_left t new =
    ap (λ (x : List ℕ). x ++ left_of t) new.held
    ∙ ap (λ (b : Bool). drop (standing_for b) (print t.writer.tokens)) new.goes_on
    ∙ ap (λ (ts : List Token). drop 1 (print ts)) new.tokens ∙ ap (drop 1) bracket_printed

-- what is held, the text that was taken from the writer, and what of it was not sent
pub record IsTaken {W : Type 0} (s : SentJson W) (held text left : List ℕ) : Type 0 where
  pub held_is : held ≡ s.held.items
  pub text_is : text ≡ s.writer.before ++ print s.writer.tokens
  pub left_is : left ≡ drop (standing_for s.goes_on) text

all_left :
    {W : Type 0} (s : SentJson W) {held text left : List ℕ} → IsTaken s held text left → IsReady s →
    held ++ left ≡ not_sent s
all_left s {left = left} taken ready =
    ap (λ (x : List ℕ). x ++ left) taken.held_is ∙ ap (λ (x : List ℕ). s.held.items ++ x)
    (taken.left_is ∙ ap (drop (standing_for s.goes_on))
    (taken.text_is ∙ ap (λ (x : List ℕ). x ++ print s.writer.tokens) ready.before))

-- what was taken of a line went to the writer, and a new one goes on
pub line_gone :
    {W : Type 0} (told : W → Account) (s t : SentJson W) {held text left : List ℕ} → IsTaken s held text left →
    t.out.ghost_name ≡ s.out.ghost_name → TookOnly (told s.out.now) (told t.out.now) (held ++ left) [] →
    ends_value s.writer.tokens ≡ true → IsNewLine t → JsonGrows told s [] t
line_gone told s t taken same took is new ready = record {
  same_writer = same;
  ready = record { before = new.before; stands = bracket_stands t new };
  ends_so = ap ends_value new.tokens ∙ sym is;
  sends = record {
    sent = not_sent s;
    took = subst (λ (x : List ℕ). TookOnly (told s.out.now) (told t.out.now) x []) (all_left s taken ready) took;
    all = ap (λ (x : List ℕ). not_sent s ++ x)
        (nothing_printed (ends_value s.writer.tokens) ∙ sym (nothing_left t new));
  };
}

-- the writer failed
pub line_stuck :
    {W : Type 0} (told : W → Account) (s t : SentJson W) {held text left : List ℕ} (e : LineError) →
    IsTaken s held text left →
    t.out.ghost_name ≡ s.out.ghost_name →
    SendsSome (told s.out.now) (told t.out.now) (held ++ left) (faults_of e) → JsonFails told s e t
line_stuck told s t e taken same some ready = record {
  same_writer = same;
  tokens = [];
  sends = record {
    sent = some.sent;
    others = some.others;
    took = some.took;
    all = ap (λ (x : List ℕ). not_sent s ++ x) (nothing_printed (ends_value s.writer.tokens))
        ∙ append-nil (not_sent s) ∙ sym (all_left s taken ready) ∙ some.all;
  };
}

-- the line can't go on
pub line_refused_on :
    {W : Type 0} (told : W → Account) (s t : SentJson W) {held text left : List ℕ} → IsTaken s held text left →
    t.out.ghost_name ≡ s.out.ghost_name → TookOnly (told s.out.now) (told t.out.now) (held ++ left) [] →
    JsonFails told s OutOfMemory t
line_refused_on told s t {held} {left = left} taken same took =
    line_stuck told s t OutOfMemory taken same
    (record { sent = held ++ left; others = []; took = took; all = sym (append-nil (held ++ left)) })

-- ---- bytes are sent

-- the writer failed, and a front of the bytes went to it
pub bytes_unsent :
    {a b : Account} {kind : ErrorKind} (n : ℕ) (bytes : List ℕ) → TookOnly a b (take n bytes) (kind ∷ []) →
    SendsSome a b bytes (kind ∷ [])
bytes_unsent n bytes took = record {
  sent = take n bytes;
  others = drop n bytes;
  took = took;
  all = sym (take-append-drop n bytes);
}

-- the first were not sent
pub first_unsent :
    {a b : Account} {faults : List ErrorKind} (first second : List ℕ) → SendsSome a b first faults →
    SendsSome a b (first ++ second) faults
first_unsent first second some = record {
  sent = some.sent;
  others = some.others ++ second;
  took = some.took;
  all = ap (λ (x : List ℕ). x ++ second) some.all ∙ append_assoc some.sent some.others second;
}

-- the second ones, after the first
pub second_sent :
    {a b : Account} (c : Account) (first second : List ℕ) (r : Result (Unit {0}) LineError) → TookOnly a b first [] →
    SendsBytes b c second r → SendsBytes a c (first ++ second) r
second_sent {a} {b} c first second (Ok u) one two = TookOnly-join a b c first second [] [] one two
second_sent {a} {b} c first second (Err e) one two = record {
  sent = first ++ two.sent;
  others = two.others;
  took = TookOnly-join a b c first two.sent [] (faults_of e) one two.took;
  all = ap (λ (x : List ℕ). first ++ x) two.all ∙ sym (append_assoc first two.sent two.others);
}

-- ---- a line is held

-- a line begins
pub record IsBegun {W : Type 0} (s : SentJson W) (old : List ℕ) : Type 0 where
  pub tokens : s.writer.tokens ≡ []
  pub before : s.writer.before ≡ []
  pub goes_on : s.goes_on ≡ false
  pub held : s.held.items ≡ old

begun_ready : {W : Type 0} (s : SentJson W) {old : List ℕ} → IsBegun s old → IsReady s
begun_ready s begun = record {
  before = begun.before;
  stands = subst (λ (b : Bool). standing_for b ≤ length (print s.writer.tokens)) (sym begun.goes_on) (omega arith);
}

begun_text :
    {W : Type 0} (s : SentJson W) {old : List ℕ} (tokens : List Token) → IsBegun s old →
    not_sent s ++ print_from (ends_value s.writer.tokens) tokens ≡ old ++ print tokens
begun_text s {old} tokens begun =
    let left : left_of s ≡ [] =
    ap (λ (b : Bool). drop (standing_for b) (print s.writer.tokens)) begun.goes_on
    ∙ ap (λ (ts : List Token). print ts) begun.tokens ∙ nothing_printed false in
    ap (λ (x : List ℕ). (s.held.items ++ x) ++ print_from (ends_value s.writer.tokens) tokens) left
    ∙ ap (λ (x : List ℕ). x ++ print_from (ends_value s.writer.tokens) tokens) (append-nil s.held.items)
    ∙ ap (λ (x : List ℕ). x ++ print_from (ends_value s.writer.tokens) tokens) begun.held
    ∙ ap (λ (ts : List Token). old ++ print_from (ends_value ts) tokens) begun.tokens

-- the line is held
pub line_held :
    {W : Type 0} (told : W → Account) (is : Json → Type 0) (s t : SentJson W) (old new : JsonLines) →
    GrowsOne (JsonGrows told) is s t → IsBegun s old.held.items →
    new.held.items ≡ not_sent t ++ line_feed ∷ [] →
    SendsLine is (told s.out.now) (told t.out.now) old new
line_held told is s t old new put begun held =
    let went = put.grown (begun_ready s begun) in
    let text = json_text put.json in
    record {
      json = put.json;
      is_so = put.is_so;
      sends = record {
        sent = went.sends.sent;
        took = went.sends.took;
        all = sym (append_assoc old.held.items text (line_feed ∷ []))
            ∙ ap (λ (x : List ℕ). x ++ line_feed ∷ [])
            (sym (begun_text s (json_tokens put.json) begun) ∙ went.sends.all)
            ∙ append_assoc went.sends.sent (not_sent t) (line_feed ∷ [])
            ∙ ap (λ (x : List ℕ). went.sends.sent ++ x) (sym held);
      };
    }

ended :
    (old text sent others : List ℕ) → old ++ text ≡ sent ++ others →
    old ++ (text ++ line_feed ∷ []) ≡ sent ++ (others ++ line_feed ∷ [])
ended old text sent others is =
    sym (append_assoc old text (line_feed ∷ [])) ∙ ap (λ (x : List ℕ). x ++ line_feed ∷ []) is
    ∙ append_assoc sent others (line_feed ∷ [])

-- it is not put
pub line_not_put :
    {W : Type 0} (told : W → Account) (s t : SentJson W) (old : JsonLines) (e : LineError) →
    JsonFails told s e t → IsBegun s old.held.items → LineFails (told s.out.now) (told t.out.now) old e
line_not_put told s t old OutOfMemory fails begun =
    let stops = fails (begun_ready s begun) in
    record {
      tokens = stops.tokens;
      sent = stops.sends.sent;
      others = stops.sends.others ++ line_feed ∷ [];
      took = stops.sends.took;
      all = ended old.held.items (print stops.tokens) stops.sends.sent stops.sends.others
          (sym (begun_text s stops.tokens begun) ∙ stops.sends.all);
    }
line_not_put told s t old (Writer kind) fails begun =
    let stops = fails (begun_ready s begun) in
    record {
      tokens = stops.tokens;
      sent = stops.sends.sent;
      others = stops.sends.others ++ line_feed ∷ [];
      took = stops.sends.took;
      all = ended old.held.items (print stops.tokens) stops.sends.sent stops.sends.others
          (sym (begun_text s stops.tokens begun) ∙ stops.sends.all);
    }

-- it is not held
pub line_not_held :
    {W : Type 0} (told : W → Account) (is : Json → Type 0) (s t : SentJson W) (old : JsonLines) (e : LineError) →
    GrowsOne (JsonGrows told) is s t → IsBegun s old.held.items → e ≡ OutOfMemory →
    LineFails (told s.out.now) (told t.out.now) old e
line_not_held told is s t old e put begun refused =
    let went = put.grown (begun_ready s begun) in
    subst (λ (x : LineError). LineFails (told s.out.now) (told t.out.now) old x) (sym refused)
    (record {
      tokens = json_tokens put.json;
      sent = went.sends.sent;
      others = not_sent t ++ line_feed ∷ [];
      took = went.sends.took;
      all = ended old.held.items (json_text put.json) went.sends.sent (not_sent t)
          (sym (begun_text s (json_tokens put.json) begun) ∙ went.sends.all);
    })

-- ---- the same, and the writer is given back

-- where it is the one that was given, it is as it was left
abbrev pub IsBack : {W : Type 0} → SentJson W → SentJson W → W → Type 0
IsBack s t out = s.out.ghost_name ≡ t.out.ghost_name → out ≡ t.out.now

-- the line was put, and the writer is given back
pub record WasPut {W : Type 0} (told : W → Account) (is : Json → Type 0) (s t : SentJson W) (out : W) (old : List ℕ)
    : Type 0 where
  pub put : GrowsOne (JsonGrows told) is s t
  pub back : IsBack s t out
  pub begun : IsBegun s old

-- it is held
pub line_ends :
    {W : Type 0} (told : W → Account) (is : Json → Type 0) (s t : SentJson W) {out : W} (old new : JsonLines)
    {held text left : List ℕ} (r : Result (Unit {0}) LineError) →
    WasPut told is s t out old.held.items → IsTaken t held text left →
    OnOk r (new.held.items ≡ held ++ (left ++ line_feed ∷ [])) →
    OnOk r (SendsLine is (told s.out.now) (told out) old new)
line_ends {W} told is s t old new {held} {left = left} (Ok u) was taken end =
    let went = was.put.grown (begun_ready s was.begun) in
    subst (λ (w : W). SendsLine is (told s.out.now) (told w) old new) (sym (was.back (sym went.same_writer)))
    (line_held told is s t old new was.put was.begun
    (end ∙ sym (append_assoc held left (line_feed ∷ []))
    ∙ ap (λ (x : List ℕ). x ++ line_feed ∷ []) (all_left t taken went.ready)))
line_ends told is s t old new (Err e) was taken end = tt

-- it is put, and not held
pub line_not_ended :
    {W : Type 0} (told : W → Account) (is : Json → Type 0) (s t : SentJson W) {out : W} (old : JsonLines)
    (r : Result (Unit {0}) LineError) →
    WasPut told is s t out old.held.items → IfErr r (λ e. e ≡ OutOfMemory) →
    IfErr r (LineFails (told s.out.now) (told out) old)
line_not_ended told is s t old (Ok u) was refused = tt
line_not_ended {W} told is s t old (Err e) was refused =
    let went = was.put.grown (begun_ready s was.begun) in
    subst (λ (w : W). LineFails (told s.out.now) (told w) old e) (sym (was.back (sym went.same_writer)))
    (line_not_held told is s t old e was.put was.begun refused)

-- it is not put
pub line_stops :
    {W : Type 0} (told : W → Account) (s t : SentJson W) (out : W) (old : JsonLines) (e : LineError) →
    JsonFails told s e t → IsBack s t out → IsBegun s old.held.items → LineFails (told s.out.now) (told out) old e
line_stops {W} told s t out old e fails back begun =
    let stops = fails (begun_ready s begun) in
    subst (λ (w : W). LineFails (told s.out.now) (told w) old e) (sym (back (sym stops.same_writer)))
    (line_not_put told s t old e fails begun)

-- ---- lines are sent

-- what is held after a line is sent
pub held_line_sent :
    {a b c : Account} (is : Json → Type 0) (old mid new : JsonLines) → SendsLine is a b old mid →
    TookOnly b c mid.held.items [] → new.held.items ≡ [] → SendsLine is a c old new
held_line_sent {a} {b} {c} is old mid new line took none = record {
  json = line.json;
  is_so = line.is_so;
  sends = record {
    sent = line.sends.sent ++ mid.held.items;
    took = TookOnly-join a b c line.sends.sent mid.held.items [] [] line.sends.took took;
    all = line.sends.all ∙ sym (append-nil (line.sends.sent ++ mid.held.items))
        ∙ ap (λ (x : List ℕ). (line.sends.sent ++ mid.held.items) ++ x) (sym none);
  };
}

-- it is not
pub held_line_unsent :
    {a b : Account} (c : Account) (is : Json → Type 0) (old mid : JsonLines) (e : LineError) →
    SendsLine is a b old mid → HeldFails b c mid e → LineFails a c old e
held_line_unsent c is old mid OutOfMemory line fails = absurd fails
held_line_unsent {a} {b} c is old mid (Writer kind) line (n, few, took) = record {
  tokens = json_tokens line.json;
  sent = line.sends.sent ++ take n mid.held.items;
  others = drop n mid.held.items;
  took = TookOnly-join a b c line.sends.sent (take n mid.held.items) [] (kind ∷ []) line.sends.took took;
  all = line.sends.all ∙ ap (λ (x : List ℕ). line.sends.sent ++ x) (sym (take-append-drop n mid.held.items))
      ∙ sym (append_assoc line.sends.sent (take n mid.held.items) (drop n mid.held.items));
}

-- the same by an answer
pub line_then_sent :
    {a b : Account} (c : Account) (is : Json → Type 0) (old mid new : JsonLines) (r : Result (Unit {0}) LineError) →
    SendsLine is a b old mid → OnOk r (TookOnly b c mid.held.items []) → OnOk r (new.held.items ≡ []) →
    OnOk r (SendsLine is a c old new)
line_then_sent c is old mid new (Ok u) line took none = held_line_sent is old mid new line took none
line_then_sent c is old mid new (Err e) line took none = tt

-- a line came after those that are held, and what is held was not sent
pub line_then_unsent :
    {a b : Account} (c : Account) (is : Json → Type 0) (old mid : JsonLines) (r : Result (Unit {0}) LineError) →
    SendsLine is a b old mid → IfErr r (HeldFails b c mid) → IfErr r (LineFails a c old)
line_then_unsent c is old mid (Ok u) line fails = tt
line_then_unsent c is old mid (Err e) line fails = held_line_unsent c is old mid e line fails
