-- Worked rows of the promises on IDs, on what is tracked, on paths and on errors, computed: the right replies, and
-- wrong ones. Nothing rests on them.
use Rattle.std.proofs.Common.{◌≡◌, ℕ, ◌^◌, true, false, [], ◌∷◌, None, Some, Ok, Err, refl, ap, arith}
use Rattle.std.specs.declared.net.socket_addr.SocketAddr.{SocketAddr}
use Rattle.recovery_base.specs.declared.below.SpaceId.TheVariants.{Initial, Data}
use Rattle.recovery_base.specs.declared.below.ids.NewConnectionId.{NewConnectionId}
use Rattle.recovery_base.specs.declared.below.ids.IssuedCid.{IssuedCid}
use Rattle.recovery_paths.specs.declared.path_pair.PathName.TheVariants.{Current, Previous}
use Rattle.recovery_events.specs.declared.event.Event.{Event}
use Rattle.recovery_events.specs.declared.event.Event.TheVariants as event
use Rattle.recovery_events.specs.declared.event.Answer.TheVariants as answer
use Rattle.recovery_events.specs.declared.event.Refusal.TheVariants as refusal
use Rattle.recovery_history.specs.History.{History, Reply}
use Rattle.recovery_history.specs.Promises.OwnIds.{IsIssue, IssuesIdsInOrder}
use Rattle.recovery_history.specs.Promises.Paths.{generation_by}
use Rattle.recovery_history.specs.Promises.PeerIds.{AcceptsIds}
use Rattle.recovery_history.specs.Promises.Rejections.{RejectsExactly}
use Rattle.recovery_history.specs.Promises.Tracked.{is_tracked}

-- the end of the range that a reply retires
abbrev end_of : {Q : Type 0} → Reply Q → ℕ
end_of (Ok (answer.Retire (Some told))) = told.0.end
end_of other = 0

module _ (Q S M P : Type 0) (queue : Q) (frames : M) (remote : SocketAddr) where
  abbrev Happened : Type 0
  Happened = Event Q S M P × Reply Q

  -- ---- the peer's IDs: the initial one is 255, and numbers 2 and 3 were received

  abbrev frame : ℕ → ℕ → NewConnectionId
  frame n low = record { sequence = n; retire_prior_to = low; id = n ∷ []; reset_token = n ∷ 7 ∷ [] }

  abbrev AcceptsIdsHere : History Q S M P → Event Q S M P → Reply Q → Type 0
  AcceptsIdsHere = AcceptsIds (255 ∷ [])

  abbrev ids : History Q S M P
  ids =
      (event.NewId (frame 3 0), Ok (answer.Retire None))
      ∷ (event.NewId (frame 2 0), Ok (answer.Retire None))
      ∷ []

  retires : AcceptsIdsHere ids (event.NewId (frame 4 1))
      (Ok (answer.Retire (Some (record { start = 0; end = 2 }, 2 ∷ 7 ∷ []))))
  retires = refl

  cut : AcceptsIdsHere ids (event.NewId (frame 9 9))
      (Ok (answer.Retire (Some (record { start = 0; end = 8 }, 9 ∷ 7 ∷ []))))
  cut = refl

  uncut_is_wrong : ¬ AcceptsIdsHere ids (event.NewId (frame 9 9))
      (Ok (answer.Retire (Some (record { start = 0; end = 9 }, 9 ∷ 7 ∷ []))))
  uncut_is_wrong = λ e. let ends : 9 ≡ 8 = ap end_of e in omega (arith, ends)

  past_limit : AcceptsIdsHere ids (event.NewId (frame 8 0)) (Err refusal.ExceedsLimit)
  past_limit = refl

  past_limit_is_not_held : ¬ AcceptsIdsHere ids (event.NewId (frame 8 0)) (Ok (answer.Retire None))
  past_limit_is_not_held = λ e. cc

  eighth : AcceptsIdsHere ids (event.NewId (frame 7 0)) (Ok (answer.Retire None))
  eighth = refl

  next_id : AcceptsIdsHere ids event.NextId (Ok (answer.Retire (Some (record { start = 0; end = 2 }, 2 ∷ 7 ∷ []))))
  next_id = refl

  again : AcceptsIdsHere ids (event.NewId (frame 2 0)) (Ok (answer.Retire None))
  again = refl

  other_token : AcceptsIdsHere ids (event.NewId (record (frame 2 0) { reset_token = 8 ∷ [] })) (Err refusal.Conflict)
  other_token = refl

  other_id_is_not_held : ¬ AcceptsIdsHere ids (event.NewId (record (frame 2 0) { id = 8 ∷ [] }))
      (Ok (answer.Retire None))
  other_id_is_not_held = λ e. cc

  -- the initial ID has no token: a frame that repeats it may give one
  initial_token : AcceptsIdsHere ids (event.NewId (record (frame 0 0) { id = 255 ∷ [] })) (Ok (answer.Retire None))
  initial_token = refl

  other_initial : AcceptsIdsHere ids (event.NewId (frame 0 0)) (Err refusal.Conflict)
  other_initial = refl

  -- the initial ID was replaced
  replaced : AcceptsIdsHere ((event.InitialId (0 ∷ []), Ok answer.Done) ∷ ids) (event.NewId (frame 0 0))
      (Ok (answer.Retire None))
  replaced = refl

  abbrev later : History Q S M P
  later = (event.NextId, Ok (answer.Retire (Some (record { start = 0; end = 2 }, 2 ∷ 7 ∷ [])))) ∷ ids

  retired : AcceptsIdsHere later (event.NewId (frame 1 0)) (Err refusal.Retired)
  retired = refl

  abbrev last : History Q S M P
  last = (event.NextId, Ok (answer.Retire (Some (record { start = 2; end = 3 }, 3 ∷ 7 ∷ [])))) ∷ later

  last_stays : AcceptsIdsHere last event.NextId (Ok (answer.Retire None))
  last_stays = refl

  not_initial : AcceptsIdsHere later (event.InitialId (0 ∷ [])) (Err refusal.NotInitialId)
  not_initial = refl

  -- ---- local IDs: two at the start, of which the peer retired number 0

  abbrev own : History Q S M P
  own = (event.PeerRetired 0 2, Ok (answer.Flag true)) ∷ []

  unissued : IssuesIdsInOrder 2 8 own (event.PeerRetired 2 2) (Err refusal.UnissuedCid)
  unissued = refl

  not_in_use : IssuesIdsInOrder 2 0 own (event.PeerRetired 2 2) (Err refusal.CidsNotInUse)
  not_in_use = refl

  room : IssuesIdsInOrder 2 8 own (event.PeerRetired 1 1) (Ok (answer.Flag true))
  room = refl

  no_room : IssuesIdsInOrder 2 8 own (event.PeerRetired 0 1) (Ok (answer.Flag false))
  no_room = refl

  no_room_is_wrong : ¬ IssuesIdsInOrder 2 8 own (event.PeerRetired 0 2) (Ok (answer.Flag false))
  no_room_is_wrong = λ e. cc

  abbrev own_id : ℕ → IssuedCid
  own_id n = record { sequence = n; id = n ∷ []; reset_token = n ∷ [] }

  extends : IsIssue {Q = Q} 2 (own_id 2 ∷ own_id 3 ∷ []) (Ok answer.Done)
  extends = refl

  gap : IsIssue {Q = Q} 2 (own_id 3 ∷ []) (Err refusal.BadRange)
  gap = refl

  gap_is_wrong : ¬ IsIssue {Q = Q} 2 (own_id 3 ∷ []) (Ok answer.Done)
  gap_is_wrong = λ e. cc

  none_takes_no_memory : ¬ IsIssue {Q = Q} 2 [] (Err refusal.NoMemory)
  none_takes_no_memory = λ e. cc

  too_many : IsIssue {Q = Q} (2 ^ 62) (own_id (2 ^ 62) ∷ []) (Err refusal.NumberTooLarge)
  too_many = refl

  -- ---- what is tracked: packets 0 and 1 were sent, then 2 on another path, and 0 was acknowledged

  abbrev row_sent : ℕ → Happened
  row_sent n = (event.Send Data 5 100 true None queue frames, Ok (answer.Sent n None))

  abbrev flight : History Q S M P
  flight =
      (event.Acked Data 9 0 false, Ok (answer.Acked false))
      ∷ row_sent 2
      ∷ (event.NewPath 6 remote true, Ok answer.Done)
      ∷ row_sent 1
      ∷ row_sent 0
      ∷ []

  one_is : is_tracked Data 1 flight ≡ true
  one_is = refl

  zero_was : is_tracked Data 0 flight ≡ false
  zero_was = refl

  forgotten : is_tracked Data 1 ((event.Send Data 9 3 false None queue frames, Ok (answer.Sent 3 (Some 1))) ∷ flight)
      ≡ false
  forgotten = refl

  discarded : is_tracked Data 1 ((event.DiscardSpace Data, Ok answer.Done) ∷ flight) ≡ false
  discarded = refl

  elsewhere : is_tracked Initial 1 flight ≡ false
  elsewhere = refl

  -- ---- paths

  first_before : generation_by Previous flight ≡ Some 0
  first_before = refl

  second_in_use : generation_by Current flight ≡ Some 1
  second_in_use = refl

  dropped : generation_by Previous ((event.DropPrevious, Ok answer.Done) ∷ flight) ≡ None
  dropped = refl

  -- the first is used again, and one that is then made is the third
  abbrev used_again : History Q S M P
  used_again = (event.RevertPath, Ok answer.Done) ∷ flight

  first_again : generation_by Current used_again ≡ Some 0
  first_again = refl

  none_before : generation_by Previous used_again ≡ None
  none_before = refl

  third : generation_by Current ((event.NewPath 7 remote true, Ok answer.Done) ∷ used_again) ≡ Some 2
  third = refl

  second_again_is_wrong : ¬ (generation_by Current ((event.NewPath 7 remote true, Ok answer.Done) ∷ used_again)
      ≡ Some 1)
  second_again_is_wrong = λ e. cc

  -- ---- errors

  acked_twice : RejectsExactly flight (event.Acked Data 9 0 false) (Err refusal.NotTracked)
  acked_twice = refl

  tracked_is_not_refused : ¬ RejectsExactly flight (event.Acked Data 9 1 false) (Err refusal.NotTracked)
  tracked_is_not_refused = λ e. cc

  acked_twice_is_wrong : ¬ RejectsExactly flight (event.Acked Data 9 0 false) (Ok (answer.Acked false))
  acked_twice_is_wrong = λ e. cc

  closed_first : RejectsExactly ((event.DiscardSpace Data, Ok answer.Done) ∷ flight) (event.Lost Data 1)
      (Err refusal.SpaceDiscarded)
  closed_first = refl

  used_again_twice : RejectsExactly used_again event.RevertPath (Err refusal.NoSuchPath)
  used_again_twice = refl

  used_again_twice_is_wrong : ¬ RejectsExactly used_again event.RevertPath (Ok answer.Done)
  used_again_twice_is_wrong = λ e. cc

  lives_is_not_refused : ¬ RejectsExactly flight event.RevertPath (Err refusal.NoSuchPath)
  lives_is_not_refused = λ e. cc

  closed_twice : ¬ RejectsExactly ((event.DiscardSpace Data, Ok answer.Done) ∷ flight) (event.DiscardSpace Data)
      (Ok answer.Done)
  closed_twice = λ e. cc

  other_refusals_pass : RejectsExactly flight (event.Received Data 9 (2 ^ 62) true) (Err refusal.NumberTooLarge)
  other_refusals_pass = refl

  no_path : RejectsExactly ids (event.Validated Previous) (Err refusal.NoSuchPath)
  no_path = refl

  a_path : ¬ RejectsExactly flight (event.Validated Previous) (Err refusal.NoSuchPath)
  a_path = λ e. cc

  first_id : RejectsExactly ids (event.InitialId (1 ∷ [])) (Ok answer.Done)
  first_id = refl

  late_id : RejectsExactly later (event.InitialId (1 ∷ [])) (Err refusal.NotInitialId)
  late_id = refl

  late_id_is_wrong : ¬ RejectsExactly later (event.InitialId (1 ∷ [])) (Ok answer.Done)
  late_id_is_wrong = λ e. cc
