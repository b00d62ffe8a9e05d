use Rattle.user_words.proofs.GoingOnAfterTorn.{plain_story}
use Rattle.user_words.proofs.laws.of_plain_stories.Goals as goal

pub returns : goal.returns
returns c =
    plain_story c.taking_joins.ensures.nothing c.taking_joins.ensures.more c.fault_is_front.ensures.calls
    c.resumption.ensures.story
