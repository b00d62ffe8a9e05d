use Rattle.std.proofs.Common.{◌≡◌, ℕ, List, true, false, refl, sym, ap, subst, ◌∙◌}
use Rattle.std.specs.List.{AllPass}
use Rattle.std.specs.Option.{is_some}
use Rattle.hex.specs.Hex.{is_hex_digit}
use Rattle.hex.proofs.HexLemmas.{IsOk-decode_sized}
use Rattle.trace_recordings.proofs.script.line.leading_pair.Goals as goal

no_true : false ≡ true → ⊥
no_true e = cc

pub returns-in_err-byte-clause-found : goal.returns-in_err-byte-clause-found
returns-in_err-byte-clause-found c =
    let digits = IsOk-decode_sized c.in_ok-pair.pair.now 1 in
    let split = c.in_ok-pair.ensures.cases in
    let none = c.from_residual-in_err-byte.ensures in (
      λ h. absurd (no_true (rw none at h)),
      λ h.
          let sized = digits.1 (split.3, subst (λ (p : List ℕ). AllPass is_hex_digit p) (sym split.1) h.1) in
          let told = rw (sym c.from_hex.ensures) at sized in
          absurd (no_true (rw c.in_err-byte.was at (c.ok.ensures.variant ∙ told))),
    )

pub returns-clause-found : goal.returns-clause-found
returns-clause-found c =
    let digits = IsOk-decode_sized c.in_ok-pair.pair.now 1 in
    let split = c.in_ok-pair.ensures.cases in
    let told : is_some c.ok.result ≡ true = ap is_some c.in_ok-byte.was in
    let sized = rw c.from_hex.ensures at (sym c.ok.ensures.variant ∙ told) in
    let both = digits.0 sized in (
      λ _. (split.0, subst (λ (p : List ℕ). AllPass is_hex_digit p) split.1 both.1),
      λ _. refl,
    )
