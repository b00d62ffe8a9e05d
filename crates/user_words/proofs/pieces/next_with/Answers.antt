use Rattle.user_words.proofs.TwoPiecesAsWhole.{fed_alike, pulled_after, refused_after}
use Rattle.user_words.proofs.pieces.next_with.Goals as goal

pub returns-clause-next : goal.returns-clause-next
returns-clause-next c =
    pulled_after c.next_frame.result c.in_ok-push.ensures.pushes c.next_frame.ensures.pulls

pub returns-clause-fed : goal.returns-clause-fed
returns-clause-fed c =
    fed_alike c.next_frame.result c.pulling_feeds.ensures.pulled c.in_ok-push.ensures.pushes c.next_frame.ensures.pulls

pub returns-clause-refused : goal.returns-clause-refused
returns-clause-refused c =
    refused_after c.next_frame.result c.in_ok-push.ensures.pushes c.next_frame.ensures.pulls
