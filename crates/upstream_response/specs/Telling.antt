-- What the parts that a reader told are on offer as, and what news further parts are.
use Rattle.std.specs.Prelude.{ℕ, Bool, true, false, if◌then◌else◌, List, [], ◌∷◌, ◌++◌, Option, Some, None}
use Rattle.model.specs.Messages.{Field}
use Rattle.model.specs.ResponseHeads.{Head}
use Rattle.model.specs.Setup.{Passing}
use Rattle.model.specs.Setup.Passing.{Whole, Streaming}
use Rattle.model.specs.Deliveries.{End, Delivery}
use Rattle.h1_reader.specs.Parts.{Part}
use Rattle.h1_reader.specs.Parts.Part.{Interim, Final, Body, Trailing}
use Rattle.h1_reader.specs.Standing.{is_done}
use Rattle.theory_responses.specs.Outbox.{trailers_at}

-- the interim heads that were told
abbrev pub interims_of : List Part → List Head
interims_of [] = []
interims_of (Interim head ∷ parts) = head ∷ interims_of parts
interims_of (_ ∷ parts) = interims_of parts

-- the final head, if it was
abbrev pub head_of : List Part → Option Head
head_of [] = None
head_of (Final head ∷ parts) = Some head
head_of (_ ∷ parts) = head_of parts

-- the octets of the body
abbrev pub body_of : List Part → List ℕ
body_of [] = []
body_of (Body octets ∷ parts) = octets ++ body_of parts
body_of (_ ∷ parts) = body_of parts

-- the trailers, if they were told
abbrev pub trailers_of : List Part → End
trailers_of [] = None
trailers_of (Trailing fields ∷ parts) = Some fields
trailers_of (_ ∷ parts) = trailers_of parts

-- how a response ends that is whole or isn't, and whose trailers were told, if it has some
abbrev pub end_of : Bool → End → End
end_of true told = Some (trailers_at told)
end_of false told = None

-- all that was told
abbrev pub all_told : List Part → Delivery
all_told parts = record { interims = interims_of parts; head = head_of parts; body = body_of parts; ends = end_of (is_done parts) (trailers_of parts) }

-- the interim heads alone
abbrev pub begun : List Part → Delivery
begun parts = record { interims = interims_of parts; head = None; body = []; ends = None }

-- what is on offer of what was told
abbrev pub shown_of : Passing → List Part → Delivery
shown_of Whole parts = if is_done parts then all_told parts else begun parts
shown_of Streaming parts = all_told parts

-- What news further parts are: where responses are passed on whole, all but the interim heads waits for the end.
abbrev pub news_of : Passing → List Part → List Part → Delivery
news_of Whole parts added =
    if is_done added
    then record {
      interims = interims_of added;
      head = head_of (parts ++ added);
      body = body_of (parts ++ added);
      ends = Some (trailers_at (trailers_of (parts ++ added)));
    }
    else record { interims = interims_of added; head = None; body = []; ends = None }
news_of Streaming parts added = record {
  interims = interims_of added;
  head = head_of added;
  body = body_of added;
  ends = end_of (is_done added) (trailers_of (parts ++ added));
}

-- The news of the connection's end, where that makes the response whole: what waited for it.
abbrev pub news_at_end : Passing → List Part → Delivery
news_at_end Whole parts = record { interims = []; head = head_of parts; body = body_of parts; ends = Some (trailers_at (trailers_of parts)) }
news_at_end Streaming parts = record { interims = []; head = None; body = []; ends = Some (trailers_at (trailers_of parts)) }
