-- How the entries of pools stand in a line of a script.
use Rattle.std.specs.Prelude.{List, ℕ, ◌++◌, codes, decimal}
use Rattle.trace_lines.specs.Lines.{quoted, address_list}
use Rattle.trace_recordings.specs.declared.script.pools.PoolText.{PoolText}
use Rattle.trace_recordings.specs.declared.script.pools.PoolStack.{PoolStack}

-- an id after a space, and a colon
unfoldable pub id_text : ℕ → List ℕ
id_text id = codes " " ++ decimal id ++ codes ":"

-- an entry of a string pool
unfoldable pub pool_text_text : PoolText → List ℕ
pool_text_text e = id_text e.id ++ quoted e.bytes.items

-- an entry of a stack pool
unfoldable pub pool_stack_text : PoolStack → List ℕ
pool_stack_text e = id_text e.id ++ address_list e.frames.items
