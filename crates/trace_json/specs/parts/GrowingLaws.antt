-- For private contracts: the laws of JSON that grows.
use Rattle.std.specs.Prelude.{◌≡◌, ℕ, Bool, List, [], ◌++◌, fold}
use Rattle.std.specs.declared.alloc.AllocError.{AllocError}
use Rattle.std.proofs.Common.{refl, sym, ap, ◌∙◌, append-nil, append_assoc}
use Rattle.std.proofs.lemmas.List.Sums.{fold-append}
use Rattle.json.specs.Print.{ends, ends_value, print_from}
use Rattle.json.specs.Token.{Token}
use Rattle.json.specs.Written.{Written}
use Rattle.json.proofs.Printed.Tokens.{print_from-append}
use Rattle.trace_values.specs.Sending.{Account}
use Rattle.trace_values.proofs.TwoStepsOfWriter.{TookOnly-none, TookOnly-join}
use Rattle.trace_json.specs.parts.Growing.{WriterGrows, WriterRefuses}
use Rattle.trace_json.specs.parts.SentJson.{JsonFails, JsonGrows, faults_of, not_sent}
use Rattle.trace_json.specs.declared.growing.SentJson.{SentJson}
use Rattle.trace_json.specs.declared.growing.LineError.{LineError}

-- ---- a writer that keeps all

pub writer_empty : (w : Written) → WriterGrows w [] w
writer_empty w = (sym (append-nil w.tokens), refl)

pub writer_joins :
    (s m t : Written) (a b : List Token) → WriterGrows s a m → WriterGrows m b t → WriterGrows s (a ++ b) t
writer_joins s m t a b first second = (
  second.0 ∙ ap (λ (x : List Token). x ++ b) first.0 ∙ append_assoc s.tokens a b,
  second.1 ∙ first.1,
)

pub writer_carries :
    (s m t : Written) (a : List Token) (e : AllocError) → WriterGrows s a m → WriterRefuses m e t → WriterRefuses s e t
writer_carries s m t a e first second = second ∙ first.1

-- ---- one that sends

pub nothing_printed : (c : Bool) → print_from c [] ≡ []
unfolding print_from
nothing_printed c = refl

pub sent_empty : {W : Type 0} (told : W → Account) (s : SentJson W) → JsonGrows told s [] s
sent_empty told s ready = record {
  same_writer = refl;
  ready = ready;
  ends_so = refl;
  sends = record {
    sent = [];
    took = TookOnly-none (told s.out.now);
    all = ap (λ (x : List ℕ). not_sent s ++ x) (nothing_printed (ends_value s.writer.tokens))
        ∙ append-nil (not_sent s);
  };
}

-- bytes after others, of which a front went
went_after :
    (start a b sent middle more rest : List ℕ) → start ++ a ≡ sent ++ middle → middle ++ b ≡ more ++ rest →
    start ++ (a ++ b) ≡ (sent ++ more) ++ rest
went_after start a b sent middle more rest first second =
    sym (append_assoc start a b) ∙ ap (λ (x : List ℕ). x ++ b) first ∙ append_assoc sent middle b
    ∙ ap (λ (x : List ℕ). sent ++ x) second ∙ sym (append_assoc sent more rest)

-- the text of tokens after others
printed_after :
    (c d : Bool) (a b : List Token) → d ≡ fold (λ _ t. ends t) c a →
    print_from c (a ++ b) ≡ print_from c a ++ print_from d b
printed_after c d a b is = print_from-append c a b ∙ ap (λ (x : Bool). print_from c a ++ print_from x b) (sym is)

pub sent_joins :
    {W : Type 0} (told : W → Account) (s m t : SentJson W) (a b : List Token) → JsonGrows told s a m →
    JsonGrows told m b t → JsonGrows told s (a ++ b) t
sent_joins told s m t a b first second ready =
    let one = first ready in
    let two = second one.ready in
    let c = ends_value s.writer.tokens in
    let d = ends_value m.writer.tokens in
    record {
      same_writer = two.same_writer ∙ one.same_writer;
      ready = two.ready;
      ends_so = two.ends_so ∙ ap (λ (x : Bool). fold (λ _ u. ends u) x b) one.ends_so
          ∙ sym (fold-append (λ _ u. ends u) c a b);
      sends = record {
        sent = one.sends.sent ++ two.sends.sent;
        took = TookOnly-join (told s.out.now) (told m.out.now) (told t.out.now) one.sends.sent two.sends.sent [] []
            one.sends.took two.sends.took;
        all = ap (λ (x : List ℕ). not_sent s ++ x) (printed_after c d a b one.ends_so)
            ∙ went_after (not_sent s) (print_from c a) (print_from d b) one.sends.sent (not_sent m) two.sends.sent
            (not_sent t) one.sends.all two.sends.all;
      };
    }

pub sent_carries :
    {W : Type 0} (told : W → Account) (s m t : SentJson W) (a : List Token) (e : LineError) → JsonGrows told s a m →
    JsonFails told m e t → JsonFails told s e t
sent_carries told s m t a e first second ready =
    let one = first ready in
    let two = second one.ready in
    let c = ends_value s.writer.tokens in
    let d = ends_value m.writer.tokens in
    record {
      same_writer = two.same_writer ∙ one.same_writer;
      tokens = a ++ two.tokens;
      sends = record {
        sent = one.sends.sent ++ two.sends.sent;
        others = two.sends.others;
        took = TookOnly-join (told s.out.now) (told m.out.now) (told t.out.now) one.sends.sent two.sends.sent []
            (faults_of e) one.sends.took two.sends.took;
        all = ap (λ (x : List ℕ). not_sent s ++ x) (printed_after c d a two.tokens one.ends_so)
            ∙ went_after (not_sent s) (print_from c a) (print_from d two.tokens) one.sends.sent (not_sent m)
            two.sends.sent two.sends.others one.sends.all two.sends.all;
      };
    }
