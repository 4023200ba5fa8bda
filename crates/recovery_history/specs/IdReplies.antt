-- The replies to the events of connection IDs (RFC 9000, 5.1, 19.15 and 19.16).
use Rattle.std.specs.Prelude.{◌≡◌, ◌≢◌, ℕ, ◌+◌, ◌<◌, ◌≤◌, max, min, List, [], length, map, None, Some}
use Rattle.std.specs.List.{range_with_len}
use Rattle.recovery_base.specs.declared.below.ids.IssuedCid.{IssuedCid}
use Rattle.recovery_base.specs.declared.below.ids.NewConnectionId.{NewConnectionId}
use Rattle.recovery_base.specs.Units.{number_limit}
use Rattle.recovery_ids.specs.LocalIds.{LocalIds, without_number}
use Rattle.recovery_ids.specs.RemoteIds.{IdTable, RemoteIds, IsLeastHeld, RepeatsFrame, active_connection_id_limit, with_frame}
use Rattle.recovery_events.specs.declared.event.Answer.{Answer}
use Rattle.recovery_events.specs.declared.event.Answer.TheVariants.{Retire, Done}
use Rattle.recovery_events.specs.declared.event.Refusal.TheVariants.{NumberTooLarge, BadRetirePriorTo, Retired, ExceedsLimit, Conflict, CidsNotInUse, UnissuedCid, BadRange}
use Rattle.recovery_history.specs.History.{Reply}
use Rattle.recovery_history.specs.Replies.{IsFlag, RejectsWhen, AnswersOrNoMemory, AlwaysAnswers}

-- ---- the peer's IDs

-- the ID of a number has this token
abbrev pub HasToken : IdTable → ℕ → List ℕ → Type 0
HasToken held n token = (id : List ℕ) × (held n ≡ Some (id, Some token))

-- a frame that retires the active number is answered with the numbers from it up to the smallest one held then, at most
-- eight, and that one's token. Any other frame retires nothing
abbrev pub IsFrameAnswer : {Q : Type 0} → RemoteIds → NewConnectionId → Answer Q → Type 0
IsFrameAnswer ids frame (Retire None) = frame.retire_prior_to ≤ ids.active
IsFrameAnswer ids frame (Retire (Some told)) =
    let held = with_frame frame ids.held in (ids.active < frame.retire_prior_to) × (told.0.start ≡ ids.active)
    × (next : ℕ) × IsLeastHeld held 0 next
    × (told.0.end ≡ min next (ids.active + active_connection_id_limit)) × HasToken held next told.1
IsFrameAnswer ids frame answer = ⊥

-- the errors of a frame, and its answer (19.15)
abbrev pub FrameReply : {Q : Type 0} → RemoteIds → NewConnectionId → Reply Q → Type 0
FrameReply ids frame = RejectsWhen NumberTooLarge (number_limit ≤ frame.sequence)
    (RejectsWhen BadRetirePriorTo (frame.sequence < frame.retire_prior_to)
    (RejectsWhen Retired (frame.sequence < ids.active)
    (RejectsWhen ExceedsLimit (max ids.active frame.retire_prior_to + active_connection_id_limit ≤ frame.sequence)
    (RejectsWhen Conflict (¬ RepeatsFrame frame ids.held) (AlwaysAnswers (IsFrameAnswer ids frame))))))

-- the next ID is the smallest one held above the active one. The numbers from the active one up to it are retired, and
-- its token is returned. If none is held the active one stays
abbrev pub IsNextAnswer : {Q : Type 0} → RemoteIds → Answer Q → Type 0
IsNextAnswer ids (Retire None) = (n : ℕ) → ids.active < n → ids.held n ≡ None
IsNextAnswer ids (Retire (Some told)) =
    (told.0.start ≡ ids.active) × IsLeastHeld ids.held (ids.active + 1) told.0.end × HasToken ids.held told.0.end told.1
IsNextAnswer ids answer = ⊥

-- ---- local IDs

-- IDs are issued in the order of their numbers, which continue from the count issued and end below 2^62; only a
-- non-empty list allocates
abbrev pub IssueReply : {Q : Type 0} → LocalIds → List IssuedCid → Reply Q → Type 0
IssueReply ids more = RejectsWhen NumberTooLarge (number_limit < ids.issued + length more)
    (RejectsWhen BadRange (map (λ id. id.sequence) more ≢ range_with_len ids.issued (length more))
    (AnswersOrNoMemory (more ≢ []) (λ answer. answer ≡ Done)))

-- the errors of a retirement; the answer states whether the limit leaves room for one more ID (19.16)
abbrev pub RetirementReply : {Q : Type 0} → LocalIds → ℕ → ℕ → Reply Q → Type 0
RetirementReply ids sequence limit = RejectsWhen CidsNotInUse (ids.cid_len ≡ 0)
    (RejectsWhen UnissuedCid (ids.issued ≤ sequence)
    (AlwaysAnswers (IsFlag (length (without_number sequence ids).unretired < limit))))
