use Rattle.std.proofs.Common.{rules, ◌≡◌, codes, string_bytes}
use Rattle.trace_lines.proofs.WordsAndReadings.{one_word}
use Rattle.trace_lines.proofs.program.task_of_words.Goals as goal

pub returns-in-len1 : goal.returns-in-len1
returns-in-len1 c =
    let text : string_bytes c.word-item.result ≡ codes "--resolve" = search rules in
    (c.word-item.result, one_word _ _ c.in-len1.len_at_least c.in-len1.len_below c.word-item.is, text)
