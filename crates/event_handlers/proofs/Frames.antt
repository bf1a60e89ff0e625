-- A frame of the client comes in, and what it calls for follows; or it is an error of the connection, which ends.
use Rattle.std.proofs.Common.{◌≡◌, ℕ, ◌<◌, ◌⊎◌, ◌==◌, true, false, List, [], ◌∷◌, Option, Some, None, inl, inr, refl, sym, subst}
use Rattle.std.specs.List.{list_any}
use Rattle.std.specs.Prelude.{is_some}
use Rattle.model.specs.Errors.Fault.{Connection}
use Rattle.model.specs.Frames.{Frame, goaway, no_error}
use Rattle.model.specs.Logs.{Output}
use Rattle.model.specs.Setup.{Setup}
use Rattle.model.specs.Tables.{Table}
use Rattle.model.specs.Tapes.{Note, Noted}
use Rattle.model.specs.Tapes.Entry.{Came}
use Rattle.model.specs.WindowsOnTape.{is_any, data_length}
use Rattle.theory_errors.specs.Owing.{fault_in}
use Rattle.theory_errors.specs.Quiet.{noted_of}
use Rattle.theory_errors.specs.Rows.{ids_of}
use Rattle.streams.specs.Asked.{has}
use Rattle.theory_requests.specs.State as theory_requests
use Rattle.upstream_connections.specs.Requests.{due_by}
use Rattle.upstream_connections.specs.declared.held.Due.{Due}
use Rattle.theory.specs.Ending.{IsFatal, ending_on_tape}
use Rattle.theory.specs.Moves.{Decision, Move}
use Rattle.theory.specs.Moves.Decision.{Takes}
use Rattle.theory.specs.Moves.Addition.{Nothing}
use Rattle.theory.specs.State.{State}
use Rattle.theory.specs.Steps.{told_by}
use Rattle.refinement.specs.View.{View, balanced, Leads}
use Rattle.refinement.specs.Rest.{IsAtRest, back_of}
use Rattle.refinement.specs.Performing.{put_all}
use Rattle.refinement.specs.Bringing.{PerformsOwn, Brings}
use Rattle.refinement.proofs.Bringing.{brings_then}
use Rattle.event_handlers.specs.ending.Reasons.{IsBy}
use Rattle.event_handlers.specs.declared.ending.reason.Ending.TheVariants as ending
use Rattle.event_handlers.specs.plain_frames.Taken as plain
use Rattle.event_handlers.specs.plain_frames.Owed.{owed_frame, with_sent, put_sent, WasFree}
use Rattle.event_handlers.specs.declared.plain_frames.taking.Owed.{Owed}
use Rattle.event_handlers.specs.declared.plain_frames.taking.TakenFrame.{TakenFrame}
use Rattle.event_handlers.specs.declared.plain_frames.taking.TakenFrame.TheVariants as plain_taken
use Rattle.event_handlers.specs.block_frames.Following.{goaway_frames}
use Rattle.event_handlers.specs.block_frames.Taken as block
use Rattle.event_handlers.specs.declared.block_frames.taking.BlockTaken.{BlockTaken}
use Rattle.event_handlers.specs.declared.block_frames.taking.BlockTaken.TheVariants as block_taken
use Rattle.event_handlers.specs.Comings.{ComesFrom}
use Rattle.event_handlers.specs.Inputs.Input.{OfFrame}
use Rattle.event_handlers.specs.MidStep.{IsMidStep}
use Rattle.event_handlers.specs.Resting.{AreNumbered, IsSettled}
use Rattle.event_handlers.proofs.Ends.{ends_come}
use Rattle.event_handlers.proofs.MidSteps.{mid_about, mid_same}

-- ---- streams have numbers of 31 bits behind the frame

pub numbered_as : (a b : View) → ids_of b.inbound.rows ≡ ids_of a.inbound.rows → AreNumbered a → AreNumbered b
numbered_as a b same numbered id kept = numbered id (subst (λ (ids : List ℕ). list_any (λ other. other == id) ids ≡ true) same kept)

pub numbered_with : (a b : View) (new : ℕ) → ((id : ℕ) → has b.inbound.rows id ≡ true → (has a.inbound.rows id ≡ true) ⊎ (new ≡ id)) → new < 2147483648 → AreNumbered a → AreNumbered b
numbered_with a b new only few numbered id kept =
    elim (only id kept) [
      | inl before ↦ numbered id before
      | inr is ↦ subst (λ n. n < 2147483648) is few
    ]

-- a GOAWAY that is owed is a frame that is owed
pub goaway_owed : (last : Option ℕ) → is_some last ≡ true → (next : Frame) × (rest : List Frame) × (goaway_frames last ≡ next ∷ rest)
goaway_owed None some = absurd (let no : false ≡ true = some in cc)
goaway_owed (Some last) some = (goaway last no_error, [], refl)

module _ (setup : Setup) where
  -- ---- what was answered

  pub plain_goes : (old new : View) (frame : Frame) (answer : TakenFrame) (due : Due) (owed : Owed) (dropped : ℕ) → answer ≡ plain_taken.Goes due owed dropped → plain.IsPlainTaken setup old frame answer new → plain.IsPassed setup old frame due owed dropped new
  plain_goes old new frame answer due owed dropped is taken = subst (λ (t : TakenFrame). plain.IsPlainTaken setup old frame t new) is taken

  pub plain_ends : (old new : View) (frame : Frame) (answer : TakenFrame) (code : ℕ) → answer ≡ plain_taken.Fatal code → plain.IsPlainTaken setup old frame answer new → plain.IsFatalFrame setup old frame code new
  plain_ends old new frame answer code is taken = subst (λ (t : TakenFrame). plain.IsPlainTaken setup old frame t new) is taken

  pub block_goes : (old new : View) (o p : List Output) (frame : Frame) (answer : BlockTaken) (due : Due) (goaway : Option ℕ) (dropped : ℕ) → answer ≡ block_taken.Goes due goaway dropped → block.IsBlockTaken setup old o frame answer new p → block.IsPassed setup old o frame due goaway dropped new p
  block_goes old new o p frame answer due goaway dropped is taken = subst (λ (t : BlockTaken). block.IsBlockTaken setup old o frame t new p) is taken

  pub block_ends : (old new : View) (o p : List Output) (frame : Frame) (answer : BlockTaken) (code : ℕ) → answer ≡ block_taken.Fatal code → block.IsBlockTaken setup old o frame answer new p → block.IsFatalFrame setup old o frame code new p
  block_ends old new o p frame answer code is taken = subst (λ (t : BlockTaken). block.IsBlockTaken setup old o frame t new p) is taken

  -- ---- it goes on

  -- a frame without a fragment, and then what is owed
  pub plain_sent : (a b c : View) (o p : List Output) (frame : Frame) (due : Due) (owed : Owed) (dropped : ℕ) → plain.IsPassed setup a frame due owed dropped b → c ≡ with_sent (owed_frame owed frame) b → p ≡ put_sent (owed_frame owed frame) o → WasFree (owed_frame owed frame) b
      → Brings setup a balanced o (Came (noted_of frame)) c (record balanced { due = due_by due; fresh = data_length is_any frame; shared = dropped }) p
  plain_sent a b c o p frame due owed dropped passed kept puts free =
      subst (λ (v : View). Brings setup a balanced o (Came (noted_of frame)) v (record balanced { due = due_by due; fresh = data_length is_any frame; shared = dropped }) p) (sym kept)
      (subst (λ (os : List Output). Brings setup a balanced o (Came (noted_of frame)) (with_sent (owed_frame owed frame) b) (record balanced { due = due_by due; fresh = data_length is_any frame; shared = dropped }) os) (sym puts) (passed.brings o free))

  -- and then what is due to an upstream
  pub plain_brings : (a b c : View) (o p q : List Output) (frame : Frame) (due : Due) (dropped fresh : ℕ) → fresh ≡ data_length is_any frame
      → Brings setup a balanced o (Came (noted_of frame)) b (record balanced { due = due_by due; fresh = data_length is_any frame; shared = dropped }) p
      → ((n back : ℕ) → PerformsOwn setup b (record balanced { due = due_by due; fresh = n; shared = back }) p c (record balanced { fresh = n; shared = back }) q)
      → Brings setup a balanced o (Came (noted_of frame)) c (record balanced { fresh = fresh; shared = dropped }) q
  plain_brings a b c o p q frame due dropped fresh is brings serves =
      subst (λ n. Brings setup a balanced o (Came (noted_of frame)) c (record balanced { fresh = n; shared = dropped }) q) (sym is)
      (brings_then setup a b c balanced (record balanced { due = due_by due; fresh = data_length is_any frame; shared = dropped }) (record balanced { fresh = data_length is_any frame; shared = dropped }) o p q (Came (noted_of frame)) brings (serves (data_length is_any frame) dropped))

  -- a frame with one, and the GOAWAY where it is owed
  pub goaway_brings : (a b c : View) (o p q : List Output) (frame : Frame) (due : Due) (goaway : Option ℕ) (dropped : ℕ) (passed : block.IsPassed setup a o frame due goaway dropped b p)
      → ((what : theory_requests.Due) (back : ℕ) → PerformsOwn setup b (record balanced { owed = goaway_frames goaway; due = what; shared = back }) p c (record balanced { due = what; shared = back }) q)
      → Brings setup a balanced o (Came (record { frame = frame; note = passed.note })) c (record balanced { due = due_by due; shared = dropped }) q
  goaway_brings a b c o p q frame due goaway dropped passed says =
      brings_then setup a b c balanced (record balanced { owed = goaway_frames goaway; due = due_by due; shared = dropped }) (record balanced { due = due_by due; shared = dropped }) o p q (Came (record { frame = frame; note = passed.note })) passed.brings (says (due_by due) dropped)

  -- and then what is due to an upstream
  pub block_brings : (a b c d : View) (o p q r : List Output) (frame : Frame) (due : Due) (goaway : Option ℕ) (dropped : ℕ) (passed : block.IsPassed setup a o frame due goaway dropped b p)
      → ((what : theory_requests.Due) (back : ℕ) → PerformsOwn setup b (record balanced { owed = goaway_frames goaway; due = what; shared = back }) p c (record balanced { due = what; shared = back }) q)
      → ((n back : ℕ) → PerformsOwn setup c (record balanced { due = due_by due; fresh = n; shared = back }) q d (record balanced { fresh = n; shared = back }) r)
      → Brings setup a balanced o (Came (record { frame = frame; note = passed.note })) d (back_of dropped) r
  block_brings a b c d o p q r frame due goaway dropped passed says serves =
      brings_then setup a c d balanced (record balanced { due = due_by due; shared = dropped }) (back_of dropped) o q r (Came (record { frame = frame; note = passed.note }))
      (goaway_brings a b c o p q frame due goaway dropped passed says) (serves 0 dropped)

  -- ---- the gateway is in the midst of a step about the frame's stream then

  pub plain_mid : (old new sent : View) (frame : Frame) (due : Due) (owed : Owed) (dropped : ℕ) → IsSettled old → plain.IsPassed setup old frame due owed dropped new → sent ≡ with_sent (owed_frame owed frame) new → IsMidStep frame.id sent
  plain_mid old new sent frame due owed dropped settled passed is =
      subst (IsMidStep frame.id) (sym is)
      (mid_same frame.id new (with_sent (owed_frame owed frame) new) refl refl refl (mid_about frame.id old new settled.rest.none_done passed.none_cut passed.about (numbered_as old new passed.ids settled.numbered)))

  pub block_mid : (old new : View) (o p : List Output) (frame : Frame) (due : Due) (goaway : Option ℕ) (dropped : ℕ) → frame.id < 2147483648 → IsSettled old → block.IsPassed setup old o frame due goaway dropped new p → IsMidStep frame.id new
  block_mid old new o p frame due goaway dropped few settled passed = mid_about frame.id old new settled.rest.none_done passed.none_cut passed.about (numbered_with old new frame.id passed.ids few settled.numbered)

  -- ---- it is an error of the connection

  pub fatal_comes : (before after : View) (o p q : List Output) (frame : Frame) (note : Note) (next : State → Table) (code : ℕ) → IsAtRest before → p ≡ o → after.upstreams ≡ before.upstreams → after.inbound.rows ≡ before.inbound.rows → after.untaken ≡ before.untaken
      → ((run : List Move) (s : State) → Leads setup run before balanced s → fault_in (told_by s) (Came (record { frame = frame; note = note })) ≡ Some (Connection code))
      → ((run : List Move) (s : State) → Leads setup run before balanced s → IsFatal s (record { frame = frame; note = note }) (next s))
      → ((run : List Move) (s : State) (kept : View) (d : Decision) → kept.upstreams ≡ after.upstreams → kept.inbound.rows ≡ after.inbound.rows → kept.untaken ≡ after.untaken → Leads setup run kept balanced s → IsBy s (ending.Frame code) d → q ≡ put_all p (ending_on_tape s d))
      → ComesFrom setup before balanced o (OfFrame frame ∷ []) balanced None q
  fatal_comes before after o p q frame note next code rest nothing upstreams rows untaken fault fatal ends =
      let noted : Noted = record { frame = frame; note = note } in
      ends_come setup before (ending.Frame code) (OfFrame frame) o q rest
      (λ run s leads. (Takes noted (next s) Nothing, (noted, next s, refl, fault run s leads, fatal run s leads), refl))
      (λ run s d leads by. subst (λ (x : List Output). q ≡ put_all x (ending_on_tape s d)) nothing (ends run s before d (sym upstreams) (sym rows) (sym untaken) leads by))
