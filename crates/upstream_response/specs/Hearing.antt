-- What octets of an upstream come to, and the end of its connection.
use Rattle.std.specs.Prelude.{◌≡◌, ℕ, ◌<◌, ◌≤◌, ◌⊎◌, Bool, true, false, List, ◌++◌, length, Some}
use Rattle.model.specs.Limits.{longest_section}
use Rattle.model.specs.Idle.{LeavesOpen}
use Rattle.theory_responses.specs.Outbox.{Outbox, grown}
use Rattle.h1_reader.specs.HeadSizes.{field_octets}
use Rattle.h1_reader.specs.Parts.{Part}
use Rattle.h1_reader.specs.Standing.{State as Reader, Stands, Hears, Breaks, IsEnd, is_done}
use Rattle.h1_reader.specs.Keeps.{Knows, Learns}
use Rattle.h1_reader.specs.declared.reader.Ended.TheVariants as reader
use Rattle.upstream_response.specs.Telling.{body_of, news_of, news_at_end}
use Rattle.upstream_response.specs.Waiting.{Answer, passing_in, limit_in, Waits}
use Rattle.upstream_response.specs.declared.answer.Heard.{Heard}
use Rattle.upstream_response.specs.declared.answer.Heard.TheVariants.{GoesOn, Keepable, Finished, Failed}
use Rattle.upstream_response.specs.declared.answer.AnswerEnd.{AnswerEnd}
use Rattle.upstream_response.specs.declared.answer.AnswerEnd.TheVariants.{Complete, Short}

-- The octets tell more of the response, which is whole with them or isn't: what is news of that is
-- on offer behind them, and what waits is what waits of all that was told. What the reader knew of
-- the head it knows still. A body that is passed on whole has no more octets than it may, and the
-- reader holds no more of them unread than a head may have, and no longer fields Connection of its
-- head.
pub record Tells (old : Answer) (octets : List ℕ) (box : Outbox) (done : Bool) (new : Answer) (box' : Outbox) : Type 0 where
  pub added : List Part
  pub hears : Hears old.reader octets added new.reader
  pub learns : Learns old.reader octets new.reader
  pub short : length new.reader.held.octets ≤ longest_section
  pub few_named : field_octets new.reader.held.connections ≤ longest_section
  pub same : new.way ≡ old.way
  pub ends : is_done added ≡ done
  pub fits : (parts : List Part) (most : ℕ) → Waits (passing_in old.way) parts old → limit_in old.way ≡ Some most → length (body_of (parts ++ added)) ≤ most
  pub waits : (parts : List Part) → Waits (passing_in old.way) parts old → done ≡ false → Waits (passing_in old.way) (parts ++ added) new
  pub offers : (parts : List Part) → Waits (passing_in old.way) parts old → box' ≡ grown box (news_of (passing_in old.way) parts added)

-- With the octets its body has more of them than a response that is passed on whole may have.
pub record IsTooLong (old : Answer) (octets : List ℕ) : Type 0 where
  pub added : List Part
  pub new : Reader
  pub hears : Hears old.reader octets added new
  pub most : ℕ
  pub limit : limit_in old.way ≡ Some most
  pub long : (parts : List Part) → Waits (passing_in old.way) parts old → most < length (body_of (parts ++ added))

-- Whatever was heard before: where that was no whole response, with the octets it is one with no octet behind it, which leaves the connection
-- open (RFC 9112, sections 9.3 and 9.6).
abbrev pub LeavesOpenWith : Answer → List ℕ → Type 0
LeavesOpenWith old octets =
    (text : List ℕ) (parts : List Part) → Stands text parts old.reader → Knows text old.reader → is_done parts ≡ false
    → LeavesOpen (text ++ octets) old.reader.to_head

-- Whatever was heard before, with the octets it is no such response.
abbrev pub NeverOpenWith : Answer → List ℕ → Type 0
NeverOpenWith old octets = (text : List ℕ) (parts : List Part) → Stands text parts old.reader → Knows text old.reader
    → LeavesOpen (text ++ octets) old.reader.to_head → ⊥

-- What octets come to. Where the answer fails, nothing of them is on offer.
abbrev pub IsHeard : Answer → List ℕ → Outbox → Heard → Answer → Outbox → Type 0
IsHeard old octets box GoesOn new box' = Tells old octets box false new box'
IsHeard old octets box Keepable new box' = Tells old octets box true new box' × LeavesOpenWith old octets
IsHeard old octets box Finished new box' = Tells old octets box true new box' × NeverOpenWith old octets
IsHeard old octets box Failed new box' = (box' ≡ box) × (Breaks old.reader octets ⊎ IsTooLong old octets)

-- What the end of the connection comes to: the response is whole with it, and then all that waited is on offer, with the end; or it
-- isn't.
abbrev pub IsEnded : Answer → Outbox → AnswerEnd → Outbox → Type 0
IsEnded old box Complete box' =
    IsEnd reader.Complete old.reader × ((parts : List Part) → Waits (passing_in old.way) parts old → box' ≡ grown box (news_at_end (passing_in old.way) parts))
IsEnded old box Short box' = IsEnd reader.Short old.reader × (box' ≡ box)
