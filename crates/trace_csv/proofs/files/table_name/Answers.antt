use Rattle.std.proofs.Common.{◌≡◌, ◌++◌, ◌∷◌, [], ℕ, true, false, List, length, ◌<◌, ◌≤◌, append_assoc, get_or, refl}
use Rattle.std.proofs.Common.{rules, arith, ap, sym, subst, ◌∙◌, string_bytes}
use Rattle.std.specs.Fmt.{decimal}
use Rattle.std.specs.List.{All}
use Rattle.trace_csv.specs.Files.{dash, is_kept, table_name}
use Rattle.trace_csv.proofs.KeptOfSchemaName.{kept_on, other_left, full_left, all_kept, table_name_kept}
use Rattle.trace_csv.proofs.files.table_name.Goals.{then-left-gt0+then-is_kept+in_ok-push, else-left-gt0}
use Rattle.trace_csv.proofs.files.table_name.Goals.{else-left-gt0-via-then-left-gt0+else-is_kept}
use Rattle.trace_csv.proofs.files.table_name.Goals.{else-left-gt0-via-else-left-gt0}
use Rattle.trace_csv.proofs.files.table_name.Goals as goal

pub bytes-preserved : goal.bytes-preserved
bytes-preserved c =
    let name = c.args.name.now in
    let i = c.bytes.byte-index in
    let lt : i < length name =
    subst (λ (l : List ℕ). i < length l) c.as_bytes-byte-items.ensures.value c.bytes-test.true in
    elim c.if-left-gt0.branch [
      | then-left-gt0+then-is_kept+in_ok-push w ↦
          kept_on c.if-left-gt0.left (string_bytes c.if-left-gt0.text) c.bytes.invariant lt (search rules)
          (search rules) (search rules) w.left-is
      | else-left-gt0 w ↦ elim w.else-left-gt0.branch [
        | else-left-gt0-via-then-left-gt0+else-is_kept v ↦
            rw (w.text-is, w.left-is) (other_left c.bytes.invariant lt (search rules))
        | else-left-gt0-via-else-left-gt0 v ↦
            rw (w.text-is, w.left-is) (full_left c.bytes.invariant lt (omega (arith, v.if-left-gt0.false)))
      ]
    ]

pub returns-clause-plain : goal.returns-clause-plain
returns-clause-plain c =
    let name = c.args.name.now in
    let le : length name ≤ c.bytes.byte-index =
    subst (λ (l : List ℕ). length l ≤ c.bytes.byte-index) c.as_bytes-byte-items.ensures.value c.bytes-test.false in
    let all : string_bytes c.bytes.text ≡ table_name c.args.number name =
    all_kept (decimal c.args.number ++ dash ∷ []) name c.bytes.byte-index c.bytes.left _ le c.bytes.invariant
    ∙ append_assoc (decimal c.args.number) (dash ∷ []) _ in
    subst (All (λ b. is_kept b ≡ true)) (sym all) (table_name_kept c.args.number c.args.name.now c.ranges.number.fits)
