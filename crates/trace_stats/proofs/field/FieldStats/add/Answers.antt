use Rattle.trace_stats.proofs.ValueAddedToField.{natural_added, negative_added, float_added, length_added}
use Rattle.trace_stats.proofs.ValueAddedToField.{by_measure}
use Rattle.trace_stats.proofs.ValueAddedToField.{naturals_full, negatives_full, floats_full, lengths_full}
use Rattle.trace_stats.proofs.field.FieldStats.add.Goals as goal

pub returns-in-Natural-clause-added : goal.returns-in-Natural-clause-added
returns-in-Natural-clause-added c =
    by_measure c.add.result _ _ c.args.self.now _ c.in-Natural.is
    (natural_added c.add.result c.in-Natural.number c.args.self.now c.add.new.self c.add.ensures.added)

pub returns-in-Negative-clause-added : goal.returns-in-Negative-clause-added
returns-in-Negative-clause-added c =
    by_measure c.add-in-Negative.result _ _ c.args.self.now _ c.in-Negative.is
    (negative_added c.add-in-Negative.result c.in-Negative.number c.args.self.now c.add-in-Negative.new.self
    c.add-in-Negative.ensures.added)

pub returns-in-Float-clause-added : goal.returns-in-Float-clause-added
returns-in-Float-clause-added c =
    by_measure c.add-in-Float.result _ _ c.args.self.now _ c.in-Float.is
    (float_added c.add-in-Float.result c.in-Float.bits c.args.self.now c.add-in-Float.new.self
    c.add-in-Float.ensures.added)

pub returns-in-Length-clause-added : goal.returns-in-Length-clause-added
returns-in-Length-clause-added c =
    by_measure c.add-in-Length.result _ _ c.args.self.now _ c.in-Length.is
    (length_added c.add-in-Length.result c.in-Length.length c.args.self.now c.add-in-Length.new.self
    c.add-in-Length.ensures.added)

pub returns-in-Natural-clause-full : goal.returns-in-Natural-clause-full
returns-in-Natural-clause-full c = naturals_full c.add.result c.args.self.now c.add.ensures.full

pub returns-in-Negative-clause-full : goal.returns-in-Negative-clause-full
returns-in-Negative-clause-full c =
    negatives_full c.add-in-Negative.result c.args.self.now c.add-in-Negative.ensures.full

pub returns-in-Float-clause-full : goal.returns-in-Float-clause-full
returns-in-Float-clause-full c = floats_full c.add-in-Float.result c.args.self.now c.add-in-Float.ensures.full

pub returns-in-Length-clause-full : goal.returns-in-Length-clause-full
returns-in-Length-clause-full c =
    lengths_full c.add-in-Length.result c.args.self.now c.add-in-Length.ensures.full
