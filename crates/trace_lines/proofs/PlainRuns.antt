-- Bytes between quotes, run by run.
use Rattle.std.proofs.Common.{◌≡◌, ℕ, ◌+◌, ◌<◌, ◌≤◌, Bool, true, false, ◌&&◌, List, [], ◌∷◌, ◌++◌, length, take, drop}
use Rattle.std.proofs.Common.{get_or, refl, sym, ap, ap₂, ◌∙◌, append_assoc, true≢false}
use Rattle.std.specs.List.{flat_map, list_all}
use Rattle.std.proofs.lemmas.List.{take-append-drop, take_all}
use Rattle.std.proofs.lemmas.List.Folds.{list_all_more}
use Rattle.std.proofs.lemmas.Grind.{flat_map-append}
use Rattle.trace_lines.specs.Lines.{is_plain, quoted_byte}

quoted_plain : (b : ℕ) → is_plain b ≡ true → quoted_byte b ≡ b ∷ []
unfolding quoted_byte
quoted_plain b plain = rw plain refl

one_and_others :
    (b : ℕ) (plain : Bool) (bytes : List ℕ) →
    is_plain b ≡ plain → (list_all is_plain bytes ≡ true → flat_map quoted_byte bytes ≡ bytes) →
    (plain && list_all is_plain bytes) ≡ true → flat_map quoted_byte (b ∷ bytes) ≡ b ∷ bytes
one_and_others b true bytes is others all =
    ap (λ (t : List ℕ). t ++ flat_map quoted_byte bytes) (quoted_plain b is) ∙ ap (λ (t : List ℕ). b ∷ t) (others all)
one_and_others b false bytes is others all = absurd (true≢false (sym all))

-- one byte more was tested
pub one_more_tested :
    (bytes : List ℕ) (i d : ℕ) {plain same : Bool} →
    i < length bytes → plain ≡ list_all is_plain (take i bytes) → same ≡ is_plain (get_or bytes i d) →
    (plain && same) ≡ list_all is_plain (take (i + 1) bytes)
one_more_tested bytes i d lt before this =
    ap₂ (λ (a b : Bool). a && b) before this ∙ sym (list_all_more is_plain bytes i d lt)

-- all bytes were tested
pub all_tested :
    (bytes : List ℕ) (i : ℕ) {plain : Bool} →
    length bytes ≤ i → plain ≡ list_all is_plain (take i bytes) → plain ≡ list_all is_plain bytes
all_tested bytes i le before = before ∙ ap (list_all is_plain) (take_all i bytes le)

plain_bytes : (bytes : List ℕ) → list_all is_plain bytes ≡ true → flat_map quoted_byte bytes ≡ bytes
plain_bytes [] all = refl
plain_bytes (b ∷ bytes) all = one_and_others b (is_plain b) bytes refl (plain_bytes bytes) all

-- a text of bytes that stand for themselves
pub plain_quoted :
    (bytes text : List ℕ) {tested : Bool} →
    tested ≡ list_all is_plain bytes → tested ≡ true → text ≡ bytes → text ≡ flat_map quoted_byte bytes
plain_quoted bytes text is so same = same ∙ sym (plain_bytes bytes (sym is ∙ so))

-- a run is appended, and the rest is left
pub run_put :
    (bytes : List ℕ) (n : ℕ) (old : List ℕ) {new front others whole : List ℕ} →
    front ≡ take n bytes → others ≡ drop n bytes → new ≡ old ++ flat_map quoted_byte front →
    old ++ flat_map quoted_byte bytes ≡ whole → new ++ flat_map quoted_byte others ≡ whole
run_put bytes n old {new} {front} {others} first rest put before =
    let q = flat_map quoted_byte in
    let parts : front ++ others ≡ bytes =
    ap (λ (t : List ℕ). t ++ others) first ∙ ap (λ (t : List ℕ). take n bytes ++ t) rest ∙ take-append-drop n bytes in
    let both : q front ++ q others ≡ q bytes =
    sym (flat_map-append quoted_byte front others) ∙ ap q parts in
    ap (λ (t : List ℕ). t ++ q others) put ∙ append_assoc old (q front) (q others)
    ∙ ap (λ (t : List ℕ). old ++ t) both ∙ before
