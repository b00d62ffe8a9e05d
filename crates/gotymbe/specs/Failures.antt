-- How a task ends that a library did not carry out.
use Rattle.trace_chrome.specs.declared.sending.ChromeError.{ChromeError}
use Rattle.trace_chrome.specs.declared.sending.ChromeError.TheVariants as chrome
use Rattle.trace_cuts.specs.declared.cut.CutError.{CutError}
use Rattle.trace_cuts.specs.declared.cut.CutError.TheVariants as cuts
use Rattle.trace_folded.specs.declared.tally.FoldError.{FoldError}
use Rattle.trace_folded.specs.declared.tally.FoldError.TheVariants as folds
use Rattle.trace_page.specs.declared.sending.PageError.{PageError}
use Rattle.trace_page.specs.declared.sending.PageError.TheVariants as pages
use Rattle.gotymbe_plan.specs.declared.ending.Ending.{Ending}
use Rattle.gotymbe_plan.specs.declared.ending.Ending.TheVariants.{OutOfMemory, Unwritten, TooMuch}

-- where a text in Chrome's format was not sent
abbrev pub chrome_ending : ChromeError → Ending
chrome_ending chrome.OutOfMemory = OutOfMemory
chrome_ending (chrome.Writer kind) = Unwritten kind

-- where a cut was not sent
abbrev pub cut_ending : CutError → Ending
cut_ending cuts.OutOfMemory = OutOfMemory
cut_ending (cuts.Writer kind) = Unwritten kind

-- where a stack was not counted
abbrev pub fold_ending : FoldError → Ending
fold_ending folds.OutOfMemory = OutOfMemory
fold_ending folds.Full = TooMuch

-- where a page was not sent
abbrev pub page_ending : PageError → Ending
page_ending pages.OutOfMemory = OutOfMemory
page_ending (pages.Writer kind) = Unwritten kind
