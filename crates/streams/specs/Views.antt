-- What is kept of an active stream, in words of `theory_errors`.
use Rattle.std.specs.Prelude.{Bool, false, ◌||◌, Option, Some, None, option_map, is_some}
use Rattle.theory_errors.specs.Summary.{Outline, Stream as Kept}
use Rattle.local_replies.specs.Views.{cause_of}
use Rattle.streams.specs.declared.course.Course.{Course}
use Rattle.streams.specs.declared.course.Reply.{Reply}
use Rattle.streams.specs.declared.live.Live.TheInside.{Inside}

-- a final head was out when the cause of a reply came
abbrev pub was_head_out : Option Reply → Bool
was_head_out None = false
was_head_out (Some reply) = reply.head_out

-- the course of a request; nothing more of it is looked at once there is a reply
abbrev pub outline_of : Course → Outline
outline_of course = record {
  begun = course.begun;
  declared = course.declared;
  octets = course.octets;
  over = course.over || is_some course.reply;
  cause = option_map (λ (reply : Reply). cause_of reply.cause) course.reply;
  head_out = was_head_out course.reply;
}

-- an active stream, which no side has reset
abbrev pub kept_of : Inside → Kept
kept_of live = record {
  ended_by_client = live.ended_by_client;
  ended_by_gateway = live.ended_by_gateway;
  reset_by_client = false;
  reset_by_gateway = false;
  balance = live.balance;
  room = live.room;
  head_out = live.head_out;
  outline = outline_of live.course;
}
