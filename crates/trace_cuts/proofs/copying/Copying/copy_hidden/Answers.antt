use Rattle.std.proofs.Common.{refl}
use Rattle.trace_cuts.proofs.OneFrameCopied.{hidden_shorter, header_copied, reset_passed}
use Rattle.trace_cuts.proofs.copying.Copying.copy_hidden.Goals as goal

pub keep-requires : goal.keep-requires
keep-requires c = hidden_shorter c.args.self.now.rest.now c.args.hidden c.args.after c.requires

pub returns-in_ok-keep-in-Header : goal.returns-in_ok-keep-in-Header
returns-in_ok-keep-in-Header c =
    header_copied c.args.self.now _ c.args.hidden c.args.after c.in-Header.is c.requires c.take_hidden_step.ensures
    refl refl c.in_ok-keep-in-Header.ensures

pub returns-in-Reset : goal.returns-in-Reset
returns-in-Reset c =
    reset_passed c.args.self.now _ c.args.hidden c.args.after c.in-Reset.is c.requires
    c.take_hidden_step-in-Reset.ensures refl refl refl
