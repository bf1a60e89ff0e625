-- What a read of trailers says of the octets (RFC 9112, section 7.1.2).
use Rattle.std.specs.Prelude.{◌≡◌, ℕ, ◌<◌, ◌≤◌, List, ◌++◌, length, take, Option, MatchOption}
use Rattle.httparse.specs.Grammar.{HasNoSection, MayBecomeSection}
use Rattle.model.specs.Messages.{Field}
use Rattle.model.specs.ResponseHeads.{trailers_passed}
use Rattle.model.specs.Responses.{IsTrailers}
use Rattle.response_texts.specs.declared.trailers.FoundTrailers.{FoundTrailers}
use Rattle.response_texts.specs.declared.trailers.TrailersRead.{TrailersRead}
use Rattle.response_texts.specs.declared.trailers.TrailersRead.TheVariants.{OnGoing, WholeAt}

-- Whatever follows the octets, they begin with no trailers.
abbrev pub NeverTrailers : List ℕ → Type 0
NeverTrailers text = (more trailers past : List ℕ) → text ++ more ≡ trailers ++ past → IsTrailers trailers → ⊥

-- The text is trailers, of which these are passed back, where the head's Connection gave these names.
pub record ArePassed (named : List (List ℕ)) (text : List ℕ) (fields : List Field) : Type 0 where
  pub are : IsTrailers text
  pub is : fields ≡ trailers_passed named are.lines

-- The octets may become trailers, or so many of them are trailers.
abbrev pub AreTrailersAt : List (List ℕ) → List ℕ → Option FoundTrailers → Type 0
AreTrailersAt named text found =
    MatchOption found (HasNoSection text × MayBecomeSection text) (λ whole. (whole.used ≤ length text)
    × ArePassed named (take whole.used text) whole.trailers.items)

-- The octets behind those that were held end before trailers do, or so many of them end trailers.
abbrev pub AreTrailersRead : List (List ℕ) → List ℕ → List ℕ → TrailersRead → Type 0
AreTrailersRead named held octets (OnGoing text) = (text.items ≡ held ++ octets) × (length text.items ≤ 16384) × HasNoSection text.items
    × MayBecomeSection text.items
AreTrailersRead named held octets (WholeAt trailers used) = (0 < used) × (used ≤ length octets) × ArePassed named (held ++ take used octets) trailers.items
