-- What of an upstream's octets is on offer, whole or not, and how it changes.
use Rattle.std.specs.Prelude.{◌≡◌, ℕ, Bool, true, List, [], None, is_some}
use Rattle.model.specs.Setup.{Passing}
use Rattle.model.specs.Deliveries.{Delivery}
use Rattle.model.specs.Available.{IsShown}
use Rattle.theory_responses.specs.Outbox.{with_news}

-- The text became this one and ended or not, and with it came this news of its response: whatever was on offer before.
pub record Tells (passing : Passing) (text : List ℕ) (ended : Bool) (longer : List ℕ) (ends to_head : Bool) (news : Delivery) : Type 0 where
  pub not_whole : (d : Delivery) → IsShown passing text ended to_head d → d.ends ≡ None
  pub none_late : (d : Delivery) → IsShown passing text ended to_head d → is_some d.head ≡ true → news.interims ≡ []
  pub shows : (d : Delivery) → IsShown passing text ended to_head d → IsShown passing longer ends to_head (with_news d news)
