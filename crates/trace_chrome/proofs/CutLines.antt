-- A line without its line feed.
use Rattle.std.proofs.Common.{◌≡◌, ℕ, ◌+◌, ◌-◌, List, [], ◌∷◌, ◌++◌, length, take, sym, ap, ◌∙◌, arith, length-append}
use Rattle.std.proofs.Math.Seq.{take-append_seam}
use Rattle.json.specs.Json.{Json}
use Rattle.trace_json.specs.Lines.{IsLineOf, json_text, line_feed}

-- what is left of a line once its last byte is gone is the text that stood before the line feed
pub line_cut :
    (is : Json → Type 0) (line : List ℕ) {n : ℕ} {held cut : List ℕ} → IsLineOf is line → held ≡ line →
    n ≡ length held → cut ≡ take (n - 1) held → IsLineOf is (cut ++ line_feed ∷ [])
line_cut is line {n} {held} {cut} l same long rest =
    let text = json_text l.json in
    let all : held ≡ text ++ line_feed ∷ [] = same ∙ l.text in
    let both = length-append text (line_feed ∷ []) in
    let whole : n ≡ length (text ++ line_feed ∷ []) = long ∙ ap length all in
    let less : n - 1 ≡ length text = omega (arith, both, whole) in
    let cut_is : cut ≡ text =
    rest ∙ ap (take (n - 1)) all ∙ ap (λ k. take k (text ++ line_feed ∷ [])) less
    ∙ take-append_seam text (line_feed ∷ []) in
    record {
      json = l.json;
      is_so = l.is_so;
      text = ap (λ (x : List ℕ). x ++ line_feed ∷ []) cut_is;
      utf8 = l.utf8;
      reads_back = l.reads_back;
    }
