-- For private contracts: several ends.
use Rattle.std.specs.Prelude.{ℕ, List, replicate}
use Rattle.trace_chrome.specs.Entries.{entries_text, is_cut}

-- so many ends that no event says
abbrev pub cuts_text : ℕ → ℕ → ℕ → ℕ → List ℕ
cuts_text from count track at = entries_text from (replicate count (is_cut track at))
