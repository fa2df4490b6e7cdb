-- What a session has done, message by message.
use Rattle.dns_spec.proofs.Common.{◌≡◌, ℕ, zero, suc, ◌+◌, ◌-◌, ◌^◌, ◌<◌, ◌≤◌, ◌⊎◌, inl, inr, All, List, [], ◌∷◌, ◌++◌, length, drop, drop-take, Option, Some, None, Err, refl, sym, ap, ◌∙◌, subst, arith, append_assoc, append-nil, length-append, flat_map, flat_map-append, Appends, Consumes, IsAtEnd, Appends-trans, Consumes-trans, Octets, ZoneContents, All-append, frame, frames, first_frame, replies}
use Rattle.dns_spec.specs.Query.{most_over_tcp}
use Rattle.dns_spec.specs.Stream.{reply_frame}
use Rattle.dns_spec.proofs.Streams.StreamFrames.{frames_again}
use Rattle.dns_spec.proofs.Replies.FirstOctets.{first_octets_answer}
use Rattle.dns_name.specs.Counted.{AppendsBeginning}
use Rattle.dns_serve.specs.Framing.{FrameState, HasCome}
use Rattle.dns_serve.specs.Reads.{FrameRead, GivesMessage, GivesNothing}
use Rattle.dns_serve.specs.Streams.{Session, AreFrames, HasServed, WasRefused, SessionOf, reply_over_tcp}
use Rattle.dns_serve.specs.declared.turn_fault.StreamFault.{StreamFault}

-- One message was read, and `Written` holds for the frame of its reply.
pub record HasRead (reply : Octets → Option Octets) (unread left : Option Octets)
    (Written : Octets → Type 0) : Type 0 where
  pub message : Octets
  pub short : length message < 2 ^ 16
  pub read : Consumes unread left (frame message)
  pub written : Written (reply_frame (reply message))

abbrev session : Option Octets → Option Octets → Option Octets → Option Octets → Session
session a b c d = record { unread = a; left = b; held = c; holds = d }

-- the reply to the kept octets of a message is the reply to the message
pub reply_of_kept : (z : ZoneContents) (f : FrameState) (piece m : Octets) → HasCome f (frame m)
    → piece ≡ drop 2 f.kept → reply_over_tcp z piece ≡ reply_over_tcp z m
reply_of_kept z f piece m h is =
    ap (reply_over_tcp z) (is ∙ ap (drop 2) h.kept ∙ drop-take 2 512 (frame m))
    ∙ sym (first_octets_answer z m most_over_tcp)

pub replied : (z : ZoneContents) (a b : Option Octets) (f : FrameState) (piece : Octets)
    (Written : Octets → Type 0) → GivesMessage a b f → piece ≡ drop 2 f.kept
    → Written (reply_frame (reply_over_tcp z piece)) → HasRead (reply_over_tcp z) a b Written
replied z a b f piece Written g is w = record {
  message = g.message;
  short = g.short;
  read = g.consumed;
  written = subst (λ r. Written (reply_frame r))
      (reply_of_kept z f piece g.message g.has_come is) w;
}

-- n messages were read, and their replies were written
pub record Done (reply : Octets → Option Octets) (s : Session) (n : ℕ) : Type 0 where
  pub messages : List Octets
  pub short : All (λ m. length m < 2 ^ 16) messages
  pub count : length messages ≡ n
  pub read : Consumes s.unread s.left (flat_map frame messages)
  pub written : Appends s.held s.holds (replies reply messages)

pub frames_of : (ms : List Octets) (m : Octets)
    → flat_map frame (ms ++ m ∷ []) ≡ flat_map frame ms ++ frame m
frames_of ms m =
    flat_map-append frame ms (m ∷ []) ∙ ap (λ x. flat_map frame ms ++ x) (append-nil (frame m))

pub replies_of : (reply : Octets → Option Octets) (ms : List Octets) (m : Octets)
    → replies reply (ms ++ m ∷ []) ≡ replies reply ms ++ reply_frame (reply m)
replies_of reply ms m = flat_map-append (λ m. reply_frame (reply m)) ms (m ∷ [])
    ∙ ap (λ x. replies reply ms ++ x) (append-nil (reply_frame (reply m)))

pub all_short : (ms : List Octets) (m : Octets) → All (λ m. length m < 2 ^ 16) ms
    → length m < 2 ^ 16 → All (λ m. length m < 2 ^ 16) (ms ++ m ∷ [])
all_short ms m p h = All-append (λ m. length m < 2 ^ 16) ms (m ∷ []) p (grind arith)

pub done_more : (reply : Octets → Option Octets) (a b c x y z : Option Octets) (n : ℕ) → Done reply
    (session a b x y) n → HasRead reply b c (Appends y z) → Done reply (session a c x z) (n + 1)
done_more reply a b c x y z n d h = record {
  messages = d.messages ++ h.message ∷ [];
  short = all_short d.messages h.message d.short h.short;
  count = length-append d.messages (h.message ∷ []) ∙ ap (λ k. k + 1) d.count;
  read = subst (Consumes a c)
      (sym (frames_of d.messages h.message)) (Consumes-trans a b c _ _ d.read h.read);
  written = subst (Appends x z)
      (sym (replies_of reply d.messages h.message)) (Appends-trans x y z _ _ d.written h.written);
}

no_frames : (k : ℕ) (rest : Octets) → first_frame rest ≡ None → frames k rest ≡ []
unfolding frames
no_frames zero rest none = refl
no_frames (suc k) rest none =
    ap (λ f. elim f as (λ _. List Octets) [ None ↦ [] | Some r ↦ r.0 ∷ frames k r.1 ]) none

-- the frames at the front of octets, if no frame follows or no more are asked for
pub frames_by : (most : ℕ) (ms : List Octets) (rest : Octets) → All (λ m. length m < 2 ^ 16) ms
    → (length ms ≡ most) ⊎ (length ms ≤ most × (first_frame rest ≡ None))
    → ms ≡ frames most (flat_map frame ms ++ rest)
unfolding frames
frames_by most ms rest short (inl e) =
    sym (ap (λ k. frames k (flat_map frame ms ++ rest)) (sym e ∙ omega arith)
    ∙ frames_again 0 ms rest short ∙ append-nil ms)
frames_by most ms rest short (inr (le, none)) =
    sym (ap (λ k. frames k (flat_map frame ms ++ rest)) (omega (arith, le))
    ∙ frames_again (most - length ms) ms rest short
    ∙ ap (λ x. ms ++ x) (no_frames (most - length ms) rest none) ∙ append-nil ms)

-- the frames of a source, from the octets that were read and whether it is at its end
frames_of_known : (a b : Option Octets) (most : ℕ) (ms : List Octets) (part : Octets) → All
    (λ m. length m < 2 ^ 16) ms → Consumes a b (flat_map frame ms ++ part) → (length ms ≡ most)
    ⊎ (length ms ≤ most × (first_frame part ≡ None) × IsAtEnd b) → AreFrames a most ms
frames_of_known a b most ms part h h1 h2 = grind (arith, append_assoc, frames_by, append-nil)

pub nil_has_none : first_frame [] ≡ None
unfolding first_frame
nil_has_none = refl

with_nothing : (a b : Option Octets) (o : Octets) → Consumes a b o → Consumes a b (o ++ [])
with_nothing a b o c = subst (Consumes a b) (sym (append-nil o)) c

-- all frames were read, up to `most` or to the end
pub served_most : (reply : Octets → Option Octets) (most n : ℕ) (a b x y : Option Octets)
    → Done reply (session a b x y) n → n ≡ most → HasServed reply most (session a b x y) n
served_most reply most n a b x y d e = grind (arith, frames_of_known, with_nothing)

pub served_all : (reply : Octets → Option Octets) (most n : ℕ) (a b c x y : Option Octets)
    → Done reply (session a b x y) n
    → n < most → GivesNothing b c → HasServed reply most (session a c x y) n
served_all reply most n a b c x y d h g =
    grind (arith, Consumes-trans, frames_of_known, nil_has_none, append-nil)

-- the next message could not be read
pub unread : (reply : Octets → Option Octets) (most n : ℕ) (a b c x y : Option Octets)
    (f : FrameState) (fault : StreamFault) → Done reply (session a b x y) n → n < most
    → FrameRead b c f (Err fault) → SessionOf reply most (session a c x y) (Err fault)
unread reply most n a b c x y f fault h h1 h2 =
    grind (arith, frames_by, Consumes-trans, frames_of_known)

-- the reply to the next message could not be written
pub unwritten : (reply : Octets → Option Octets) (most n : ℕ) (a b c x y z : Option Octets)
    → Done reply (session a b x y) n
    → n < most → HasRead reply b c (AppendsBeginning y z) → WasRefused reply most (session a c x z)
unwritten reply most n a b c x y z d h b' =
    let ms = d.messages ++ b'.message ∷ [] in
    let read : Consumes a c (flat_map frame ms) = subst (Consumes a c)
    (sym (frames_of d.messages b'.message)) (Consumes-trans a b c _ _ d.read b'.read) in record {
      earlier = d.messages;
      message = b'.message;
      taken = b'.written.0;
      are_frames = frames_of_known a c (length d.messages + 1) ms []
          (all_short d.messages b'.message d.short b'.short) (with_nothing a c _ read)
          (inl (length-append d.messages (b'.message ∷ [])));
      within = omega (arith, d.count, h);
      read = read;
      written = Appends-trans x y z _ _ d.written b'.written.2;
    }
