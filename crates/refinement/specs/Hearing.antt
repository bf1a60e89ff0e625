-- What is kept of an upstream's answer, and that it stands for all that was heard of it.
use Rattle.std.specs.Prelude.{◌≡◌, ℕ, ◌≤◌, false, List, length, Some}
use Rattle.model.specs.Limits.{longest_section}
use Rattle.model.specs.Setup.Passing.{Whole}
use Rattle.model.specs.Tapes.{Entry}
use Rattle.model.specs.Openings.{exchange_on}
use Rattle.model.specs.Available.{heard_by}
use Rattle.model.specs.Known.{Known}
use Rattle.model.specs.Idle.{is_asked_for_head}
use Rattle.h1_reader.specs.HeadSizes.{field_octets}
use Rattle.h1_reader.specs.Parts.{Part}
use Rattle.h1_reader.specs.Standing.{Stands, is_done}
use Rattle.h1_reader.specs.Keeps.{Knows}
use Rattle.upstream_response.specs.Waiting.{Answer, passing_in, limit_in, Waits}

-- An answer is passed on as the setup says.
pub record IsSetUp (known : Known) (answer : Answer) : Type 0 where
  pub passing : passing_in answer.way ≡ known.setup.passing
  pub limit : known.setup.passing ≡ Whole → limit_in answer.way ≡ Some known.setup.max_response

-- The answer stands for all that was heard of the newest exchange on a connection, where these
-- parts were told, and knows of the final head whether it lets the connection stay open; its
-- response isn't whole yet, and its reader holds no more octets unread than a head may have, and no
-- longer fields Connection of the head.
pub record IsHeard (known : Known) (t : List Entry) (k : ℕ) (answer : Answer) : Type 0 where
  pub parts : List Part
  pub stands : Stands (heard_by (exchange_on k t) t) parts answer.reader
  pub knows : Knows (heard_by (exchange_on k t) t) answer.reader
  pub short : length answer.reader.held.octets ≤ longest_section
  pub few_named : field_octets answer.reader.held.connections ≤ longest_section
  pub goes_on : is_done parts ≡ false
  pub waits : Waits (passing_in answer.way) parts answer
  pub asked : answer.reader.to_head ≡ is_asked_for_head known (exchange_on k t) t
  pub set_up : IsSetUp known answer
