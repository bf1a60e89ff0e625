-- No octets lie in what is kept of streams.
use Rattle.std.proofs.Common.{◌≡◌, ◌+◌, ℕ, List, [], ◌∷◌, Option, Some, None, refl, arith}
use Rattle.std.specs.Prelude.{sum_by}
use Rattle.std.proofs.lemmas.List.Sums.{sum_by-cons}
use Rattle.streams.specs.HeldInside.{in_number_if, in_reply_if, in_course, in_live, in_entry, in_slot, at_key}
use Rattle.streams.specs.declared.course.Course.{Course}
use Rattle.streams.specs.declared.course.Reply.{Reply}
use Rattle.streams.specs.declared.entries.StreamEntry.{StreamEntry}
use Rattle.streams.specs.declared.entries.Slot.{Slot}
use Rattle.streams.specs.declared.entries.Slot.TheVariants as slot
use Rattle.streams.specs.declared.live.Live.TheInside.{Inside as LiveInside}
use Rattle.streams.specs.declared.records.StreamRecord.{StreamRecord}

number_if : (number : Option ℕ) → in_number_if number ≡ 0
number_if None = refl
number_if (Some number) = refl

reply_if : (reply : Option Reply) → in_reply_if reply ≡ 0
reply_if None = refl
reply_if (Some reply) = refl

course : (c : Course) → in_course c ≡ 0
course c = omega (arith, number_if c.declared, reply_if c.reply)

pub live_is : (live : LiveInside) → in_live live ≡ 0
live_is live = omega (arith, course live.course)

slot_is : (s : Slot) → in_slot s ≡ 0
slot_is (slot.Live key) = refl
slot_is (slot.Over by_us) = refl

at_key_is : (r : Option StreamRecord) → at_key r ≡ 0
at_key_is None = refl
at_key_is (Some r) = refl

all_entries : (es : List StreamEntry) → sum_by in_entry es ≡ 0
all_entries [] = refl
all_entries (e ∷ es) = omega (arith, sum_by-cons in_entry e es, slot_is e.slot, all_entries es)

all_records : (rs : List (Option StreamRecord)) → sum_by at_key rs ≡ 0
all_records [] = refl
all_records (r ∷ rs) = omega (arith, sum_by-cons at_key r rs, at_key_is r, all_records rs)

pub all : (es : List StreamEntry) (rs : List (Option StreamRecord)) → sum_by in_entry es + sum_by at_key rs ≡ 0
all es rs = omega (arith, all_entries es, all_records rs)
