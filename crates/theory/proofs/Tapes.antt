-- The moves of all concerns have one tape.
use Rattle.std.proofs.Common.{◌≡◌, ℕ, Bool, true, false, ◌==◌, List, [], ◌∷◌, ◌++◌, refl, ◌∙◌, ap}
use Rattle.model.specs.Frames.{window_update_kind}
use Rattle.model.specs.Setup.{Setup}
use Rattle.model.specs.Logs.{Event, Act}
use Rattle.model.specs.Logs.Act.{Open, ToUp, Close, CloseClient}
use Rattle.model.specs.Openings.{given, begins_another}
use Rattle.model.specs.Logs.Event.{Client, ClientEnd, ClientTook, Up, UpEnd, UpFailed, UpTook, Drain}
use Rattle.model.specs.Tapes.{Noted, Entry}
use Rattle.model.specs.Tapes.Entry.{Happened, Sent, Did}
use Rattle.theory_responses.specs.Rule as offers
use Rattle.theory_responses.specs.Sight.{Sight, sight_in}
use Rattle.theory_responses.specs.State as theory_responses
use Rattle.theory_receive_windows.specs.Rule as windows
use Rattle.theory_receive_windows.specs.State as theory_receive_windows
use Rattle.theory_requests.specs.Lines.{Heard}
use Rattle.theory_requests.specs.State as theory_requests
use Rattle.theory_header_tables.specs.State as theory_header_tables
use Rattle.theory_errors.specs.Summary.{Summary}
use Rattle.theory.specs.Moves.{Addition, Decision, Move, entry_of, offer_of, gained, failed, idled, request_of, table_of, given_or_sent, sent_or_used, acted, window_of}
use Rattle.theory.specs.Moves.Addition.{Nothing, Begins, Gathers, Passes, Drops}
use Rattle.theory.specs.Moves.Decision.{Takes, Breaks, Notes, Hears, Fails, Idles, Sends, Goes, Acts}
use Rattle.theory.specs.Moves.Move.{Does, Settles}
use Rattle.theory.specs.State.{tape_of, summary_at, offers_of, turns_of, tables_of, windows_of}

-- ---- of one decision

pub offer_entry : (s u : Sight) (d : Decision) → theory_responses.entry_of (offer_of s u d) ≡ entry_of d
offer_entry s u (Takes noted next addition) = refl
offer_entry s u (Breaks breach) = refl
offer_entry s u (Notes event) = refl
offer_entry s u (Hears event stream news heard) = refl
offer_entry s u (Fails event stream heard) = refl
offer_entry s u (Idles event) = refl
offer_entry s u (Sends noted next) = refl
offer_entry s u (Goes noted item part next) = refl
offer_entry s u (Acts act) = refl

gained_entry : (noted : Noted) (addition : Addition) → theory_requests.entry_of (gained noted addition) ≡ Entry.Came noted
gained_entry noted Nothing = refl
gained_entry noted (Begins head ended route text stage) = refl
gained_entry noted (Gathers item route text old body written stage) = refl
gained_entry noted (Passes item k old written stage) = refl
gained_entry noted (Drops item) = refl

failed_entry : (event : Event) (heard : Heard) → theory_requests.entry_of (failed event heard) ≡ Happened event
failed_entry (Client piece) heard = refl
failed_entry ClientEnd heard = refl
failed_entry (ClientTook count) heard = refl
failed_entry (Up k piece) heard = refl
failed_entry (UpEnd k) heard = refl
failed_entry (UpFailed k) heard = refl
failed_entry (UpTook k count) heard = refl
failed_entry Drain heard = refl

idled_entry : (event : Event) → theory_requests.entry_of (idled event) ≡ Happened event
idled_entry (Client piece) = refl
idled_entry ClientEnd = refl
idled_entry (ClientTook count) = refl
idled_entry (Up k []) = refl
idled_entry (Up k (octet ∷ octets)) = refl
idled_entry (UpEnd k) = refl
idled_entry (UpFailed k) = refl
idled_entry (UpTook k count) = refl
idled_entry Drain = refl

pub request_entry : (d : Decision) → theory_requests.entry_of (request_of d) ≡ entry_of d
request_entry (Takes noted next addition) = gained_entry noted addition
request_entry (Breaks breach) = refl
request_entry (Notes event) = refl
request_entry (Hears event stream news heard) = refl
request_entry (Fails event stream heard) = failed_entry event heard
request_entry (Idles event) = idled_entry event
request_entry (Sends noted next) = refl
request_entry (Goes noted item part next) = refl
request_entry (Acts act) = refl

pub table_entry : (s : Summary) (d : Decision) → theory_header_tables.entry_of (table_of s d) ≡ entry_of d
table_entry s (Takes noted next addition) = refl
table_entry s (Breaks breach) = refl
table_entry s (Notes event) = refl
table_entry s (Hears event stream news heard) = refl
table_entry s (Fails event stream heard) = refl
table_entry s (Idles event) = refl
table_entry s (Sends noted next) = refl
table_entry s (Goes noted item part next) = refl
table_entry s (Acts act) = refl

given_entry : (b : Bool) (s u : Sight) (noted : Noted) → theory_receive_windows.entries_of (given_or_sent b s u noted) ≡ Sent noted ∷ []
given_entry true s u noted = refl
given_entry false s u noted = refl

-- octets to an upstream, and any other act
used_entry : (b : Bool) (k : ℕ) (octets : List ℕ) → theory_receive_windows.entries_of (sent_or_used b k octets) ≡ Did (ToUp k octets) ∷ []
used_entry true k octets = refl
used_entry false k octets = refl

acted_entry : (s : Sight) (act : Act) → theory_receive_windows.entries_of (acted s act) ≡ Did act ∷ []
acted_entry s (Open k route) = refl
acted_entry s (ToUp k octets) = used_entry (begins_another (given k s.given) s.last octets) k octets
acted_entry s (Close k) = refl
acted_entry s CloseClient = refl

pub window_entry : (s u : Sight) (d : Decision) → theory_receive_windows.entries_of (window_of s u d) ≡ entry_of d ∷ []
window_entry s u (Takes noted next addition) = refl
window_entry s u (Breaks breach) = refl
window_entry s u (Notes event) = refl
window_entry s u (Hears event stream news heard) = refl
window_entry s u (Fails event stream heard) = refl
window_entry s u (Idles event) = refl
window_entry s u (Sends noted next) = given_entry (noted.frame.kind == window_update_kind) s u noted
window_entry s u (Goes noted item part next) = given_entry (noted.frame.kind == window_update_kind) s u noted
window_entry s u (Acts act) = acted_entry s act

-- ---- of all

pub offers_tape : (setup : Setup) (run : List Move) → offers.tape_of (offers_of setup run) ≡ tape_of run
offers_tape setup [] = refl
offers_tape setup (Does d ∷ run) =
    ap (λ (e : Entry). e ∷ offers.tape_of (offers_of setup run)) (offer_entry (sight_in (summary_at setup run)) (sight_in (summary_at setup (Does d ∷ run))) d)
    ∙ ap (λ (t : List Entry). entry_of d ∷ t) (offers_tape setup run)
offers_tape setup (Settles ∷ run) = offers_tape setup run

pub requests_tape : (setup : Setup) (run : List Move) → theory_requests.tape_of (turns_of setup run) ≡ tape_of run
requests_tape setup [] = refl
requests_tape setup (Does d ∷ run) = ap (λ (e : Entry). e ∷ theory_requests.tape_of (turns_of setup run)) (request_entry d) ∙ ap (λ (t : List Entry). entry_of d ∷ t) (requests_tape setup run)
requests_tape setup (Settles ∷ run) = requests_tape setup run

pub tables_tape : (setup : Setup) (run : List Move) → theory_header_tables.tape_of (tables_of setup run) ≡ tape_of run
tables_tape setup [] = refl
tables_tape setup (Does d ∷ run) =
    ap (λ (e : Entry). e ∷ theory_header_tables.tape_of (tables_of setup run)) (table_entry (summary_at setup run) d) ∙ ap (λ (t : List Entry). entry_of d ∷ t) (tables_tape setup run)
tables_tape setup (Settles ∷ run) = tables_tape setup run

pub windows_tape : (setup : Setup) (run : List Move) → theory_receive_windows.tape_of (windows.moves_of (windows_of setup run)) ≡ tape_of run
windows_tape setup [] = refl
windows_tape setup (Does d ∷ run) =
    ap (λ (es : List Entry). es ++ theory_receive_windows.tape_of (windows.moves_of (windows_of setup run))) (window_entry (sight_in (summary_at setup run)) (sight_in (summary_at setup (Does d ∷ run))) d)
    ∙ ap (λ (t : List Entry). entry_of d ∷ t) (windows_tape setup run)
windows_tape setup (Settles ∷ run) = windows_tape setup run
