-- How far the reading of an input is.
use Rattle.std.specs.Prelude.{◌≡◌, ℕ, ◌*◌, ◌/◌, ◌-◌, ◌^◌, ◌<◌, ◌≤◌, Bool, false, List, [], ◌++◌, codes}
use Rattle.std.specs.Prelude.{Option, Some, None, IsTrue}
use Rattle.std.specs.Fmt.{decimal}
use Rattle.gotymbe_plan.specs.declared.progress.Progress.{Progress}
use Rattle.gotymbe_plan.specs.Endings.{start_text}

-- of so many bytes and fewer nothing is told: 64 MiB
abbrev pub small_input : ℕ
small_input = 67108864

-- of more, to a terminal, and unless quiet is asked for
pub record IsToldOf (bytes : ℕ) (terminal quiet : Bool) : Type 0 where
  pub large : small_input < bytes
  pub terminal_is : IsTrue terminal
  pub loud : quiet ≡ false

-- the seconds that the rest takes at the same pace; they are known where any was read and 64 bits count the product
pub record IsTimeLeft (done rest elapsed_ms : ℕ) (left : Option ℕ) : Type 0 where
  pub unknown : done ≡ 0 → left ≡ None
  pub too_much : 2 ^ 64 ≤ elapsed_ms * rest → left ≡ None
  pub known : 0 < done → elapsed_ms * rest < 2 ^ 64 → left ≡ Some (elapsed_ms * rest / done / 1000)

-- all where as many bytes were read as there are, or more; else a part, rounded down
pub record IsProgress (done of elapsed_ms : ℕ) (p : Progress) : Type 0 where
  pub within : p.percent ≤ 100
  pub whole : of ≤ done → p ≡ record { percent = 100; left_s = Some 0 }
  pub percent : done < of → p.percent ≡ done * 100 / of
  pub not_whole : done < of → p.percent < 100
  pub left : done < of → IsTimeLeft done (of - done) elapsed_ms p.left_s

-- the time that is left, where it is known
abbrev pub left_text : Option ℕ → List ℕ
left_text (Some left) = codes ", " ++ decimal left ++ codes " s left"
left_text None = []

-- the file, how much was read and what is left, and then what has a terminal erase the rest of the line and go back
abbrev pub progress_text : List ℕ → ℕ → Option ℕ → List ℕ
progress_text name percent left =
    (start_text name ++ (decimal percent ++ codes " %")) ++ left_text left ++ codes "\u{1b}[K\r"
