use Rattle.std.proofs.Common.{rules, ◌≡◌}
use Rattle.trace_recordings.specs.declared.script.call.ScriptCall.TheVariants.{DefineType, Reset, Resume}
use Rattle.trace_recordings.proofs.ScriptTurns.{asked_turn, reset_turn, resume_turn, type_turn}
use Rattle.trace_recordings.specs.Playing.{playing_of}
use Rattle.trace_recordings.proofs.ScriptRefusals.{no_memory_in}
use Rattle.trace_recordings.proofs.player.Player.make.Goals as goal

pub returns-in_ok-reply-in_default-clause-turns : goal.returns-in_ok-reply-in_default-clause-turns
returns-in_ok-reply-in_default-clause-turns c =
    asked_turn c.push_reply_line-in_default.result _ _ _ _ _ c.in_ok-reply-in_default.ensures.asked
    c.push_reply_line-in_default.ensures.added

pub returns-in_ok-reply-in_default-clause-refused : goal.returns-in_ok-reply-in_default-clause-refused
returns-in_ok-reply-in_default-clause-refused c =
    no_memory_in c.push_reply_line-in_default.result (playing_of c.args.self.now) c.args.line c.args.call.now
    c.push_reply_line-in_default.ensures.refused

pub returns-in_ok-reply-in-Reset-clause-turns : goal.returns-in_ok-reply-in-Reset-clause-turns
returns-in_ok-reply-in-Reset-clause-turns c =
    let is : c.args.call.now ≡ Reset = search rules in
    reset_turn c.push_reply_line-in-Reset.result _ _ _ _ _ is c.in_ok-reply-in-Reset.ensures.resets
    c.push_reply_line-in-Reset.ensures.added

pub returns-in_ok-reply-in-Reset-clause-refused : goal.returns-in_ok-reply-in-Reset-clause-refused
returns-in_ok-reply-in-Reset-clause-refused c =
    no_memory_in c.push_reply_line-in-Reset.result (playing_of c.args.self.now) c.args.line c.args.call.now
    c.push_reply_line-in-Reset.ensures.refused

pub returns-in_ok-reply-in-Resume-clause-turns : goal.returns-in_ok-reply-in-Resume-clause-turns
returns-in_ok-reply-in-Resume-clause-turns c =
    let is : c.args.call.now ≡ Resume = search rules in
    resume_turn c.push_reply_line-in-Resume.result _ _ _ _ _ is c.in_ok-reply-in-Resume.ensures.resumes
    c.push_reply_line-in-Resume.ensures.added

pub returns-in_ok-reply-in-Resume-clause-refused : goal.returns-in_ok-reply-in-Resume-clause-refused
returns-in_ok-reply-in-Resume-clause-refused c =
    no_memory_in c.push_reply_line-in-Resume.result (playing_of c.args.self.now) c.args.line c.args.call.now
    c.push_reply_line-in-Resume.ensures.refused

pub returns-in_ok-define_type-in-DefineType-clause-turns : goal.returns-in_ok-define_type-in-DefineType-clause-turns
returns-in_ok-define_type-in-DefineType-clause-turns c =
    let is : c.args.call.now ≡ DefineType c.in-DefineType.handle c.in-DefineType.slot c.in-DefineType.definition =
    search rules in
    type_turn c.push_reply_line-in-DefineType.result _ _ _ _ _ _ is c.in_ok-define_type-in-DefineType.ensures.defined
    c.push_reply_line-in-DefineType.ensures.added
