-- For private contracts: what the code tells of an event and of counters.
use Rattle.trace_values.specs.ValueViews.{view}
use Rattle.trace_chrome.specs.Counters.{Reading, shows, adds, nothing}
use Rattle.trace_chrome.specs.Entries.{Counter, Told}
use Rattle.trace_chrome.specs.Slices.{What, begins, ends, takes, happens}
use Rattle.trace_chrome.specs.declared.counters.Reading as read
use Rattle.trace_chrome.specs.declared.counters.Reading.TheVariants.{Shows, Adds, Nothing}
use Rattle.trace_chrome.specs.declared.entries.Counter as held
use Rattle.trace_chrome.specs.declared.entries.Told as kept
use Rattle.trace_chrome.specs.declared.labels.What as told
use Rattle.trace_chrome.specs.declared.labels.What.TheVariants.{Begins, Ends, Takes, Happens}

abbrev pub what_view : told.What → What
what_view (Begins group) = begins group.now
what_view (Ends group) = ends group.now
what_view (Takes n) = takes n
what_view Happens = happens

abbrev pub counter_view : held.Counter → Counter
counter_view c = record { track = c.track; schema = c.schema.now; field = c.field.now }

abbrev pub reading_view : read.Reading → Reading
reading_view (Shows v) = shows (view v.now)
reading_view (Adds z) = adds z
reading_view Nothing = nothing

abbrev pub told_view : kept.Told → Told
told_view t = record { frame = t.frame; json = t.json.now }
