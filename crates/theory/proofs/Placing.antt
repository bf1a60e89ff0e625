-- Each concern's moves came by its own rule, and what they were told is so.
use Rattle.std.proofs.Common.{◌≡◌, ℕ, Bool, true, false, ◌==◌, List, [], ◌∷◌, refl, sym, ◌∙◌, ap, subst, inl, inr}
use Rattle.model.specs.Messages.{Item}
use Rattle.model.specs.Messages.Item.{Block}
use Rattle.model.specs.Setup.{Setup}
use Rattle.model.specs.Logs.{Event, Act}
use Rattle.model.specs.Logs.Event.{Client, ClientEnd, ClientTook, Up, UpEnd, UpFailed, UpTook, Drain}
use Rattle.model.specs.Logs.Act.{Open, ToUp, Close, CloseClient}
use Rattle.model.specs.Frames.{window_update_kind}
use Rattle.model.specs.Openings.{exchanges, given, last_stream, begins_another}
use Rattle.model.specs.WindowsOnTape.{is_on, data_octets}
use Rattle.model.specs.Tapes.{Noted, Entry, came}
use Rattle.model.proofs.AloneLaws.{none_begins}
use Rattle.model.specs.Admission.{is_open}
use Rattle.model.specs.Known.{Known, fails_behind}
use Rattle.model.specs.Courses.{upstream_of}
use Rattle.model.specs.Idle.{IsIdle}
use Rattle.theory_errors.specs.Summary.{Summary, summary_of, stream_of}
use Rattle.theory_errors.specs.Rule.{AreKnown}
use Rattle.theory_errors.specs.Turn.{Conducted}
use Rattle.theory_errors.proofs.Rule.{conducted}
use Rattle.theory_errors.proofs.Book.{has_kept}
use Rattle.theory_errors.proofs.Telling.{book_told}
use Rattle.theory_responses.specs.Rule as offers
use Rattle.theory_responses.specs.Sight.{Sight, IsRightOf, sight_in, windows_in}
use Rattle.theory_responses.specs.State as theory_responses
use Rattle.theory_receive_windows.specs.Policy.{Gates, AreGates}
use Rattle.theory_receive_windows.specs.Rule as windows
use Rattle.theory_requests.specs.Lines.{Heard}
use Rattle.theory_requests.specs.Meaning.{IsSo, AreSo}
use Rattle.theory_requests.specs.Rule as requests
use Rattle.theory_requests.specs.State as theory_requests
use Rattle.theory_requests.specs.Told.{Told, IsTold}
use Rattle.theory_requests.proofs.Connections.{connections_told, idle_used, octets_sent}
use Rattle.theory_requests.proofs.Idling.{hears_more, hears_end, hears_none}
use Rattle.theory_header_tables.specs.Kept.{IsJudgedIf, AllJudged}
use Rattle.theory_header_tables.specs.Rule as theory_header_tables
use Rattle.theory_header_tables.specs.Turns.{MayBeginIf, AllBegan}
use Rattle.theory.specs.Moves.{Addition, Decision, Move, fails_in, offer_of, gained, failed, idled, request_of, table_of, given_or_sent, sent_or_used, acted, window_of, told_in}
use Rattle.theory.specs.Moves.Addition.{Nothing, Begins, Gathers, Passes, Drops}
use Rattle.theory.specs.Moves.Decision.{Takes, Breaks, Notes, Hears, Fails, Idles, Sends, Goes, Acts}
use Rattle.theory.specs.Moves.Move.{Does, Settles}
use Rattle.theory.specs.State.{gates_in, conducts, tape_of, summary_at, offers_of, turns_of, tables_of, windows_of, state_of}
use Rattle.theory.specs.Rule.{rooms_in, added_in, Additions, AllAllowed}
use Rattle.theory.specs.Answered.{IsHeardBy, IsAnswered, AreAnswered}
use Rattle.theory.proofs.Tapes.{offer_entry, offers_tape, requests_tape, tables_tape, windows_tape}
use Rattle.theory.proofs.Telling.{live_told, all_moved, told_by, moves_same, sight_right, closed_told, told_right, verdict_told}
use Rattle.theory.proofs.Adding.{none_added, one_added, first_added, added_by_book, right_by_book}

-- ---- what is told before a move

pub offers_sight : (setup : Setup) (run : List Move) → offers.sight_of (offers_of setup run) ≡ sight_in (summary_at setup run)
offers_sight setup [] = refl
offers_sight setup (Does d ∷ run) = refl
offers_sight setup (Settles ∷ run) = offers_sight setup run

pub windows_sight : (setup : Setup) (run : List Move) → windows.sight_of (windows_of setup run) ≡ sight_in (summary_at setup run)
windows_sight setup [] = refl
windows_sight setup (Does d ∷ run) = refl
windows_sight setup (Settles ∷ run) = refl

pub windows_gates : (setup : Setup) (run : List Move) → windows.gates_of (windows_of setup run) ≡ gates_in (summary_at setup run) (theory_requests.state_of setup (turns_of setup run))
windows_gates setup [] = refl
windows_gates setup (Does d ∷ run) = refl
windows_gates setup (Settles ∷ run) = refl

pub turns_told : (setup : Setup) (run : List Move) → requests.told_of (turns_of setup run) ≡ told_in (summary_at setup run)
turns_told setup [] = refl
turns_told setup (Does d ∷ run) = refl
turns_told setup (Settles ∷ run) = turns_told setup run

-- ---- each came by its rule

pub offers_may : (setup : Setup) (run : List Move) → AllAllowed setup run → offers.AllMayCome (offers_of setup run)
offers_may setup [] all = tt
offers_may setup (Does d ∷ run) all = (
  offers_may setup run all.0,
  subst (λ (s : Sight). offers.MayCome s (sight_in (summary_at setup (Does d ∷ run))) (theory_responses.state_of (offers.moves_of (offers_of setup run))) (offer_of (sight_in (summary_at setup run)) (sight_in (summary_at setup (Does d ∷ run))) d)) (sym (offers_sight setup run)) all.1.offer,
)
offers_may setup (Settles ∷ run) all = offers_may setup run all

pub windows_may : (setup : Setup) (run : List Move) → AllAllowed setup run → windows.AllMayCome setup.more_room setup.passing (windows_of setup run)
windows_may setup [] all = tt
windows_may setup (Does d ∷ run) all = (
  windows_may setup run all.0,
  subst (λ (g : Gates). windows.MayCome setup.passing g (windows.sight_of (windows_of setup run)) (sight_in (summary_at setup (Does d ∷ run))) (windows.state_with g (windows.kept_behind setup.more_room setup.passing (windows_of setup run))) (window_of (sight_in (summary_at setup run)) (sight_in (summary_at setup (Does d ∷ run))) d)) (sym (windows_gates setup run))
      (subst (λ (s : Sight). windows.MayCome setup.passing (gates_in (summary_at setup run) (theory_requests.state_of setup (turns_of setup run))) s (sight_in (summary_at setup (Does d ∷ run))) (rooms_in (summary_at setup run) (state_of setup run)) (window_of (sight_in (summary_at setup run)) (sight_in (summary_at setup (Does d ∷ run))) d)) (sym (windows_sight setup run)) all.1.window),
)
windows_may setup (Settles ∷ run) all = (windows_may setup run all, tt)

pub turns_may : (setup : Setup) (run : List Move) → AllAllowed setup run → requests.AreAllowed setup (turns_of setup run)
turns_may setup [] all = tt
turns_may setup (Does d ∷ run) all = (
  turns_may setup run all.0,
  subst (λ told. requests.IsAllowed setup told (told_in (summary_at setup (Does d ∷ run))) (theory_requests.state_of setup (turns_of setup run)) (request_of d)) (sym (turns_told setup run)) all.1.request,
)
turns_may setup (Settles ∷ run) all = turns_may setup run all

pub tables_fit : (setup : Setup) (run : List Move) → AllAllowed setup run → theory_header_tables.AllFit setup.policy (tables_of setup run)
tables_fit setup [] all = tt
tables_fit setup (Does d ∷ run) all = (tables_fit setup run all.0, all.1.table)
tables_fit setup (Settles ∷ run) all = tables_fit setup run all

pub parts_begin : (setup : Setup) (run : List Move) → AllAllowed setup run → AllBegan (offers_of setup run)
parts_begin setup [] all = tt
parts_begin setup (Does d ∷ run) all = (
  parts_begin setup run all.0,
  subst (λ (s : Sight). MayBeginIf (windows_in s) (theory_responses.state_of (offers.moves_of (offers_of setup run))) (theory_responses.entry_of (offer_of (sight_in (summary_at setup run)) (sight_in (summary_at setup (Does d ∷ run))) d))) (sym (offers_sight setup run))
      (subst (MayBeginIf (windows_in (sight_in (summary_at setup run))) (theory_responses.state_of (offers.moves_of (offers_of setup run)))) (sym (offer_entry (sight_in (summary_at setup run)) (sight_in (summary_at setup (Does d ∷ run))) d)) all.1.in_turn),
)
parts_begin setup (Settles ∷ run) all = parts_begin setup run all

-- the tape came in the turns of `theory_errors`
pub in_turns : (known : Known) (run : List Move) → AreKnown known (conducts run) → AllAllowed known.setup run → Conducted known (tape_of run)
in_turns known run knows all = conducted known (conducts run) knows (has_kept known.setup (conducts run) (all_moved known run all)).allowed

-- ---- what was told is so

pub offers_right : (known : Known) (run : List Move) → AreKnown known (conducts run) → AllAllowed known.setup run → offers.AreRight known (offers_of known.setup run)
offers_right known [] knows all = tt
offers_right known (Does d ∷ run) knows all = (
  offers_right known run knows.0 all.0,
  subst (λ (t : List Entry). IsRightOf known t (sight_in (summary_at known.setup (Does d ∷ run)))) (sym (offers_tape known.setup (Does d ∷ run))) (sight_right known (Does d ∷ run) knows (all_moved known (Does d ∷ run) all)),
)
offers_right known (Settles ∷ run) knows all = offers_right known run knows all

-- what a decision tells of an answer
told_one : (known : Known) (s u : Sight) (t : List Entry) (d : Decision) → fails_behind known t ≡ fails_in d → IsAnswered known t d → offers.IsTold known t (offer_of s u d)
told_one known s u t (Takes noted next addition) fails so = tt
told_one known s u t (Breaks breach) fails so = tt
told_one known s u t (Notes event) fails so = tt
told_one known s u t (Hears event stream news heard) fails so = so.0
told_one known s u t (Fails event stream heard) fails so = tt
told_one known s u t (Idles event) fails so = record { idle = so.0; sound = fails }
told_one known s u t (Sends noted next) fails so = tt
told_one known s u t (Goes noted item part next) fails so = tt
told_one known s u t (Acts act) fails so = tt

pub offers_told : (known : Known) (run : List Move) → AreKnown known (conducts run) → AreAnswered known run → offers.AreTold known (offers_of known.setup run)
offers_told known [] knows so = tt
offers_told known (Does d ∷ run) knows so = (
  offers_told known run knows.0 so.0,
  subst (λ (t : List Entry). offers.IsTold known t (offer_of (sight_in (summary_at known.setup run)) (sight_in (summary_at known.setup (Does d ∷ run))) d)) (sym (offers_tape known.setup run))
      (told_one known (sight_in (summary_at known.setup run)) (sight_in (summary_at known.setup (Does d ∷ run))) (tape_of run) d knows.1 so.1),
)
offers_told known (Settles ∷ run) knows so = offers_told known run knows so

-- the verdicts on frames
judged_one : (known : Known) (run : List Move) → AreKnown known (conducts run) → AllAllowed known.setup run → (d : Decision) → IsJudgedIf (tape_of run) (table_of (summary_at known.setup run) d)
judged_one known run knows all (Takes noted next addition) = verdict_told known run knows (all_moved known run all) noted
judged_one known run knows all (Breaks breach) = tt
judged_one known run knows all (Notes event) = tt
judged_one known run knows all (Hears event stream news heard) = tt
judged_one known run knows all (Fails event stream heard) = tt
judged_one known run knows all (Idles event) = tt
judged_one known run knows all (Sends noted next) = (sight_right known run knows (all_moved known run all)).block
judged_one known run knows all (Goes noted item part next) = (sight_right known run knows (all_moved known run all)).block
judged_one known run knows all (Acts act) = tt

pub tables_judged : (known : Known) (run : List Move) → AreKnown known (conducts run) → AllAllowed known.setup run → AllJudged (tables_of known.setup run)
tables_judged known [] knows all = tt
tables_judged known (Does d ∷ run) knows all = (
  tables_judged known run knows.0 all.0,
  subst (λ (t : List Entry). IsJudgedIf t (table_of (summary_at known.setup run) d)) (sym (tables_tape known.setup run)) (judged_one known run knows.0 all.0 d),
)
tables_judged known (Settles ∷ run) knows all = tables_judged known run knows all

-- ---- what frames add

-- What is told of a frame's gain is so of the tape, and of its stream where it gains something.
record TellsAddition (known : Known) (t : List Entry) (noted : Noted) (s : Summary) : Type 0 where
  pub same : added_in known.setup s noted ≡ added_in known.setup (summary_of known t) noted
  pub right : (item : Item) → added_in known.setup (summary_of known t) noted ≡ item ∷ [] → s.stream noted.frame.id ≡ stream_of known t noted.frame.id

addition_told : (known : Known) (run : List Move) → AreKnown known (conducts run) → AllAllowed known.setup run → (noted : Noted) → TellsAddition known (tape_of run) noted (summary_at known.setup run)
addition_told known run knows all noted =
    let moved = all_moved known run all in
    told_by known run knows moved (TellsAddition known (tape_of run) noted)
    (λ goes_on. let told = book_told known (conducts run) knows moved goes_on in record { same = added_by_book known (tape_of run) _ told noted; right = right_by_book known (tape_of run) _ told noted })
    (subst (TellsAddition known (tape_of run) noted) (sym (moves_same known run knows moved)) (record { same = refl; right = λ item adds. refl }))

gained_so : (known : Known) (t : List Entry) (s : Summary) (noted : Noted) (addition : Addition) → TellsAddition known t noted s → Additions known.setup s noted addition → IsSo known t (gained noted addition)
gained_so known t s noted Nothing tells additions = none_added known t noted s tells.same tells.right additions
gained_so known t s noted (Begins head ended route text stage) tells additions =
    (first_added known t noted s tells.same tells.right (Block head ended) additions, one_added known t noted s tells.same tells.right (Block head ended) additions.adds)
gained_so known t s noted (Gathers item route text old body written stage) tells additions = one_added known t noted s tells.same tells.right item additions
gained_so known t s noted (Passes item k old written stage) tells additions = one_added known t noted s tells.same tells.right item additions
gained_so known t s noted (Drops item) tells additions = one_added known t noted s tells.same tells.right item additions

failed_so : (known : Known) (t : List Entry) (event : Event) (heard : Heard) → IsHeardBy known t event heard → IsSo known t (failed event heard)
failed_so known t (UpFailed k) heard so = tt
failed_so known t (Client piece) heard so = so
failed_so known t ClientEnd heard so = so
failed_so known t (ClientTook count) heard so = so
failed_so known t (Up k piece) heard so = so
failed_so known t (UpEnd k) heard so = so
failed_so known t (UpTook k count) heard so = so
failed_so known t Drain heard so = so

-- what comes of an idle connection
idled_so : (known : Known) (t : List Entry) (event : Event) → IsIdle known t (upstream_of event) → IsSo known t (idled event)
idled_so known t (Client piece) idle = tt
idled_so known t ClientEnd idle = tt
idled_so known t (ClientTook count) idle = tt
idled_so known t (Up k []) idle = hears_none known t k idle
idled_so known t (Up k (octet ∷ octets)) idle = hears_more known t k idle octet octets
idled_so known t (UpEnd k) idle = hears_end known t k idle
idled_so known t (UpFailed k) idle = tt
idled_so known t (UpTook k count) idle = tt
idled_so known t Drain idle = tt

request_so : (known : Known) (run : List Move) → AreKnown known (conducts run) → (all : AllAllowed known.setup run) → (d : Decision) → Rattle.theory.specs.Rule.AdditionsIf known.setup (summary_at known.setup run) d → IsAnswered known (tape_of run) d → IsSo known (tape_of run) (request_of d)
request_so known run knows all (Takes noted next addition) additions so = gained_so known (tape_of run) (summary_at known.setup run) noted addition (addition_told known run knows all noted) additions
request_so known run knows all (Breaks breach) additions so = tt
request_so known run knows all (Notes event) additions so = tt
request_so known run knows all (Hears event stream news heard) additions so = so.1
request_so known run knows all (Fails event stream heard) additions so = failed_so known (tape_of run) event heard so.0
request_so known run knows all (Idles event) additions so = idled_so known (tape_of run) event so.0
request_so known run knows all (Sends noted next) additions so = tt
request_so known run knows all (Goes noted item part next) additions so = tt
request_so known run knows all (Acts act) additions so = tt

pub turns_so : (known : Known) (run : List Move) → AreKnown known (conducts run) → AllAllowed known.setup run → AreAnswered known run → AreSo known (turns_of known.setup run)
turns_so known [] knows all so = tt
turns_so known (Does d ∷ run) knows all so = (
  turns_so known run knows.0 all.0 so.0,
  subst (λ (t : List Entry). IsSo known t (request_of d)) (sym (requests_tape known.setup run)) (request_so known run knows.0 all.0 d all.1.additions so.1),
  subst (λ (t : List Entry). IsTold known t (told_in (summary_at known.setup (Does d ∷ run)))) (sym (requests_tape known.setup (Does d ∷ run))) (told_right known (Does d ∷ run) knows (all_moved known (Does d ∷ run) all)),
)
turns_so known (Settles ∷ run) knows all so = turns_so known run knows all so

-- ---- what receiving is told

gates_right : (known : Known) (run : List Move) → AreKnown known (conducts run) → AllAllowed known.setup run → AreAnswered known run → AreGates (tape_of run) (gates_in (summary_at known.setup run) (theory_requests.state_of known.setup (turns_of known.setup run)))
gates_right known run knows all so =
    let moved = all_moved known run all in
    record {
      is_up = λ k. connections_told known (turns_of known.setup run) (turns_may known.setup run all) (turns_so known run knows all so) k ∙ ap (λ (t : List Entry). is_open k t) (requests_tape known.setup run);
      given = λ k. ap (λ os. given k os) (sight_right known run knows moved).given;
      live = live_told known run knows moved;
      last = (sight_right known run knows moved).last;
      untaken = (sight_right known run knows moved).untaken;
      closed = closed_told known run knows moved;
    }

-- no DATA came on a stream that a kept connection is given to
module _ (known : Known) (run : List Move) (knows : AreKnown known (conducts run)) (all : AllAllowed known.setup run) (so : AreAnswered known run) where
  abbrev before : Sight
  before = sight_in (summary_at known.setup run)

  given_told : (b : Bool) (s u : Sight) (noted : Noted) → windows.IsTold known.setup.passing (tape_of run) (given_or_sent b s u noted)
  given_told true s u noted = tt
  given_told false s u noted = tt

  bare_told : (k : ℕ) (octets : List ℕ) (b : Bool) → begins_another (given k before.given) before.last octets ≡ b → requests.MayAct (told_in (summary_at known.setup run)) (theory_requests.state_of known.setup (turns_of known.setup run)) (ToUp k octets)
      → windows.IsTold known.setup.passing (tape_of run) (sent_or_used b k octets)
  bare_told k octets false is may = tt
  bare_told k octets true is (inl send) =
      let turns = turns_of known.setup run in
      let right = sight_right known run knows (all_moved known run all) in
      let its : given k (exchanges (tape_of run)) ≡ last_stream (tape_of run) = subst (λ (t : List Entry). given k (exchanges t) ≡ last_stream t) (requests_tape known.setup run) (octets_sent known turns (turns_may known.setup run all) (turns_so known run knows all so) k octets send) in
      let same : given k before.given ≡ before.last = ap (λ os. given k os) right.given ∙ its ∙ sym right.last in
      absurd (let clash : false ≡ true = sym (none_begins (given k before.given) before.last octets same) ∙ is in cc)
  bare_told k octets true is (inr used) = λ streaming.
      let turns = turns_of known.setup run in
      subst (λ (t : List Entry). data_octets (is_on (last_stream t)) (came t) ≡ 0) (requests_tape known.setup run) ((idle_used known turns (turns_may known.setup run all) (turns_so known run knows all so) k octets used).bare streaming)

  acted_told : (act : Act) → requests.MayAct (told_in (summary_at known.setup run)) (theory_requests.state_of known.setup (turns_of known.setup run)) act → windows.IsTold known.setup.passing (tape_of run) (acted before act)
  acted_told (Open k route) may = tt
  acted_told (ToUp k octets) may = bare_told k octets (begins_another (given k before.given) before.last octets) refl may
  acted_told (Close k) may = tt
  acted_told CloseClient may = tt

  window_told : (u : Sight) (behind : Told) (d : Decision) → requests.MayMove known.setup (told_in (summary_at known.setup run)) behind (theory_requests.state_of known.setup (turns_of known.setup run)) (request_of d) → windows.IsTold known.setup.passing (tape_of run) (window_of before u d)
  window_told u behind (Takes noted next addition) may = tt
  window_told u behind (Breaks breach) may = tt
  window_told u behind (Notes event) may = tt
  window_told u behind (Hears event stream news heard) may = tt
  window_told u behind (Fails event stream heard) may = tt
  window_told u behind (Idles event) may = tt
  window_told u behind (Sends noted next) may = given_told (noted.frame.kind == window_update_kind) before u noted
  window_told u behind (Goes noted item part next) may = given_told (noted.frame.kind == window_update_kind) before u noted
  window_told u behind (Acts act) may = acted_told act may

pub windows_right : (known : Known) (run : List Move) → AreKnown known (conducts run) → AllAllowed known.setup run → AreAnswered known run → windows.AreRight known known.setup.passing (windows_of known.setup run)
windows_right known [] knows all so = tt
windows_right known (Does d ∷ run) knows all so = (
  windows_right known run knows.0 all.0 so.0,
  subst (λ (t : List Entry). IsRightOf known t (sight_in (summary_at known.setup (Does d ∷ run)))) (sym (windows_tape known.setup (Does d ∷ run))) (sight_right known (Does d ∷ run) knows (all_moved known (Does d ∷ run) all)),
  subst (λ (t : List Entry). AreGates t (gates_in (summary_at known.setup (Does d ∷ run)) (theory_requests.state_of known.setup (turns_of known.setup (Does d ∷ run))))) (sym (windows_tape known.setup (Does d ∷ run))) (gates_right known (Does d ∷ run) knows all so),
  subst (λ (t : List Entry). windows.IsTold known.setup.passing t (window_of (sight_in (summary_at known.setup run)) (sight_in (summary_at known.setup (Does d ∷ run))) d)) (sym (windows_tape known.setup run))
      (window_told known run knows.0 all.0 so.0 (sight_in (summary_at known.setup (Does d ∷ run))) (told_in (summary_at known.setup (Does d ∷ run))) d all.1.request.may),
)
windows_right known (Settles ∷ run) knows all so = (
  windows_right known run knows all so,
  subst (λ (t : List Entry). IsRightOf known t (sight_in (summary_at known.setup run))) (sym (windows_tape known.setup run)) (sight_right known run knows (all_moved known run all)),
  subst (λ (t : List Entry). AreGates t (gates_in (summary_at known.setup run) (theory_requests.state_of known.setup (turns_of known.setup run)))) (sym (windows_tape known.setup run)) (gates_right known run knows all so),
  tt,
)
