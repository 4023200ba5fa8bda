-- Worked rows of the promises on MTU searches and on black holes, computed: with the right answer each holds, and with
-- a wrong one it does not. Nothing rests on them.
use Rattle.std.proofs.lemmas.Bool.Decides.{nat_tests}
use Rattle.std.proofs.lemmas.Option.{none-some, same_Some}
use Rattle.std.proofs.Common.{◌≡◌, ℕ, ◌<◌, ◌≤◌, zero, suc, true, false, List, [], ◌∷◌, Option, None, Some, Ok, Err, inl, inr, refl, sym, arith}
use Rattle.std.specs.Prelude.{All}
use Rattle.std.specs.declared.net.socket_addr.SocketAddr.{SocketAddr}
use Rattle.rand_core.specs.Stream.{Stream}
use Rattle.recovery_base.specs.declared.below.SpaceId.TheVariants.{Data, Handshake}
use Rattle.recovery_mtud.specs.declared.config.MtuDiscoveryConfig.{MtuDiscoveryConfig}
use Rattle.recovery_packet_numbers.specs.declared.filter.Skips.TheVariants.{Disabled}
use Rattle.recovery_events.specs.declared.event.Event.{Event}
use Rattle.recovery_events.specs.declared.event.Event.TheVariants as event
use Rattle.recovery_events.specs.declared.event.Answer.TheVariants as answer
use Rattle.recovery_events.specs.declared.event.Refusal.TheVariants as refusal
use Rattle.recovery_history.specs.History.{Beginning, History, Reply}
use Rattle.recovery_history.specs.Promises.Bursts.{open_run, size_of}
use Rattle.recovery_history.specs.Promises.ProbeCount.{BoundsProbeCount, is_in_flight, sizes_probed}
use Rattle.recovery_history.specs.Promises.Halving.{HalvesSizes, next_size}
use Rattle.recovery_history.specs.Promises.BlackHoles.{ReportsBlackHoleAtFour}
use Rattle.recovery_history.specs.Promises.Mtu.{mtu}
use Rattle.recovery_history.specs.Promises.Convergence.{IsNear, next, start}
use Rattle.recovery_history.specs.Promises.Probes.{acked_probes, lost_probes}
use Rattle.recovery_history.specs.Promises.ProbeSizes.{BoundsProbeSize}
use Rattle.recovery_history.specs.Promises.ProbesPerSize.{ProbesSizeAtMostThrice}
use Rattle.recovery_history.specs.Promises.OneProbe.{OneProbeAtATime}
use Rattle.recovery_history.specs.Search.{discovery_settings}
use Rattle.quic_recovery_rows.proofs.RowStart.{RowHistory, row_start}

-- ---- too many probes, and too many sizes

module _ {F K Q S M P : Type 0} (beginning : Beginning F K Q S M P) (settings : MtuDiscoveryConfig)
    (is : discovery_settings beginning ≡ Some settings) (change : 3 ≤ settings.minimum_change) where
  -- this many probes, each of them lost, of these sizes
  abbrev polls : ℕ → (ℕ → ℕ) → History Q S M P
  polls zero size = []
  polls (suc n) size = (event.Lost Data n, Ok (answer.Lost true)) ∷
      (event.PollMtu n, Ok (answer.Probe n (size n))) ∷ polls n size

  one_more_fits : BoundsProbeCount beginning (polls 47 (λ n. 1300)) (event.PollMtu 60) (Ok (answer.Probe 60 1301))
  one_more_fits = λ own same wide. (omega arith, omega arith)

  probe_49 : ¬ BoundsProbeCount beginning (polls 48 (λ n. 1300)) (event.PollMtu 60) (Ok (answer.Probe 60 1301))
  probe_49 = λ few. let many = (few settings is change).0 in omega (arith, many)

  size_17 : ¬ BoundsProbeCount beginning (polls 16 (λ n. n)) (event.PollMtu 60) (Ok (answer.Probe 60 1301))
  size_17 = λ few. let many = (few settings is change).1 in omega (arith, many)

  -- a search that ended no longer counts
  after_its_end : BoundsProbeCount beginning ((event.PollMtu 50, Ok answer.NoProbe) ∷ polls 48 (λ n. 1300))
      (event.PollMtu 60)
      (Ok (answer.Probe 60 1301))
  after_its_end = λ own same wide. (omega arith, omega arith)

  -- a third try of a size, and a fourth one
  third_try : ProbesSizeAtMostThrice beginning (polls 2 (λ n. 1300)) (event.PollMtu 60) (Ok (answer.Probe 60 1300))
  third_try = λ own same wide size. grind (arith, nat_tests)

  fourth_try : ¬ ProbesSizeAtMostThrice beginning (polls 3 (λ n. 1300)) (event.PollMtu 60) (Ok (answer.Probe 60 1300))
  fourth_try = λ thrice. let many = thrice settings is change 1300 in omega (arith, many)

one_all : (Holds : ℕ → Type 0) (n : ℕ) → Holds n → All Holds (n ∷ [])
one_all Holds n holds zero d below = holds
one_all Holds n holds (suc k) d below = absurd (omega (arith, below))

-- ---- how near searches end: 1326 got through, and 1389 did not, by steps of 20 up to 1452

module _ (Q S M P : Type 0) where
  abbrev by : MtuDiscoveryConfig
  by = record { interval = 600; upper_bound = 1452; minimum_change = 20; black_hole_cooldown = 60 }

  abbrev ended : History Q S M P
  ended =
      (event.Lost Data 1, Ok (answer.Lost true))
      ∷ (event.PollMtu 2, Ok (answer.Probe 1 1389))
      ∷ (event.Acked Data 1 0 false, Ok (answer.Acked true))
      ∷ (event.PollMtu 0, Ok (answer.Probe 0 1326))
      ∷ []

  in_use : mtu true 1200 1200 ended ≡ 1326
  in_use = refl

  at_start : start 1200 1200 ended ≡ 1200
  at_start = refl

  got_through : acked_probes ended ≡ 1326 ∷ []
  got_through = refl

  did_not : lost_probes ended ≡ 1389 ∷ []
  did_not = refl

  -- the MTU that was found elsewhere last, unless the peer's limit or a black hole set it since
  abbrev found : History Q S M P
  found = (event.MtuFound 1400, Ok answer.Done) ∷ (event.MtuFound 1300, Ok answer.Done) ∷ []

  found_last : mtu false 1200 1200 found ≡ 1400
  found_last = refl

  found_is_limited : mtu false 1200 1200 ((event.PeerLimit 1350, Ok answer.Done) ∷ found) ≡ 1350
  found_is_limited = refl

  found_is_dropped : mtu false 1500 1200 ((event.LossesDone 9, Ok (answer.BlackHole true)) ∷ found) ≡ 1200
  found_is_dropped = refl

  rejected_is_not_found : mtu false 1200 1200 ((event.MtuFound 0, Err refusal.ZeroMtu) ∷ found) ≡ 1400
  rejected_is_not_found = refl

  -- 1350 is near enough
  near_enough : IsNear 1200 1200 by 1350 ended
  near_enough = λ starts acks losses. (omega arith, omega arith)

  -- to end here is too far from 1380, which may get through
  too_early : ¬ IsNear 1200 1200 by 1380 ended
  too_early = λ near. let far = (near (omega arith) (one_all (λ size. size ≤ 1380) 1326 (omega arith))
      (one_all (λ size. 1380 < size) 1389 (omega arith))).1 in omega (arith, far)

  -- no probe at the first poll ends a search at once: too far from 1452
  never_probed : ¬ IsNear {Q = Q} {S = S} {M = M} {P = P} 1200 1200 by 1452 []
  never_probed = λ near. let far = (near (omega arith) (λ k d below. absurd (omega (arith, below)))
      (λ k d below. absurd (omega (arith, below)))).1 in omega (arith, far)

  -- what the peer accepts is a bound too
  at_its_limit : IsNear {Q = Q} {S = S} {M = M} {P = P} 1200 1200 by 1452 ((event.PeerLimit 1210, Ok answer.Done) ∷ [])
  at_its_limit = λ starts acks losses. (omega arith, omega arith)

  -- a report reduces the MTU in use, and the next search waits for the cooldown
  lowered : mtu true 1300 1200 ((event.LossesDone 7, Ok (answer.BlackHole true)) ∷ ended) ≡ 1200
  lowered = refl

  cooled : next by ((event.LossesDone 7, Ok (answer.BlackHole true)) ∷ ended) ≡ 67
  cooled = refl

  -- a path that is used again has what it had, within what the peer has since stated that it accepts; its search starts
  -- again
  abbrev another : SocketAddr → History Q S M P
  another remote = (event.NewPath 8 remote true, Ok answer.Done) ∷ ended

  fresh_one : (remote : SocketAddr) → mtu true 1200 1200 (another remote) ≡ 1200
  fresh_one remote = refl

  used_again : (remote : SocketAddr) → mtu true 1200 1200 ((event.RevertPath, Ok answer.Done) ∷ another remote) ≡ 1326
  used_again remote = refl

  limited_meanwhile : (remote : SocketAddr) → mtu true 1200 1200 ((event.RevertPath, Ok answer.Done)
      ∷ (event.PeerLimit 1300, Ok answer.Done)
      ∷ another remote) ≡ 1300
  limited_meanwhile remote = refl

  searched_anew : (remote : SocketAddr) → acked_probes ((event.RevertPath, Ok answer.Done) ∷ another remote) ≡ []
  searched_anew remote = refl

-- ---- the size of a probe: from 1200, by steps of 20 up to 1452

module _ (remote : SocketAddr) (random : Stream) where
  abbrev Fits : RowHistory → ℕ → Type 0
  Fits history size =
      BoundsProbeSize (row_start remote random 8 Disabled) history (event.PollMtu 9) (Ok (answer.Probe 9 size))

  up_to_the_bound : Fits [] 1452
  up_to_the_bound = (omega arith, omega arith, λ settings is wide. grind arith)

  above_the_bound : ¬ Fits [] 1453
  above_the_bound = λ fits. let within = fits.1 in omega (arith, within)

  it_does_not_overflow : ¬ BoundsProbeSize (row_start remote random 8 Disabled) [] (event.PollMtu 9)
      (Err refusal.Overflow)
  it_does_not_overflow = λ over. let small = over.1 in elim over.2 [
    | inl many ↦ omega (arith, small, many)
    | inr often ↦ omega (arith, often)
  ]

  -- the peer accepts 1400
  abbrev told : RowHistory
  told = (event.PeerLimit 1400, Ok answer.Done) ∷ []

  up_to_the_limit : Fits told 1400
  up_to_the_limit = (omega arith, omega arith, λ settings is wide. grind arith)

  above_the_limit : ¬ Fits told 1401
  above_the_limit = λ fits. let within = fits.0 in omega (arith, within)

  -- a limit that is rejected is none
  refused_limit_is_none : Fits ((event.PeerLimit 1400, Err refusal.Searching) ∷ []) 1401
  refused_limit_is_none = (omega arith, omega arith, λ settings is wide. grind arith)

  -- 1326 got through
  abbrev through : RowHistory
  through = (event.Acked Data 1 0 false, Ok (answer.Acked true)) ∷ (event.PollMtu 0, Ok (answer.Probe 0 1326)) ∷ []

  above_what_is_in_use : Fits through 1327
  above_what_is_in_use = (omega arith, omega arith, λ settings is wide. grind arith)

  what_is_in_use : ¬ Fits through 1326
  what_is_in_use = λ fits. let above = (fits.2 _ refl (omega arith)).0 in omega (arith, above)

-- ---- the sizes of a search, one after another: from 1200, by steps of 20 up to 1452

module _ (remote : SocketAddr) (random : Stream) where
  abbrev RowHalves : RowHistory → Reply (List ℕ) → Type 0
  RowHalves history reply = HalvesSizes (row_start remote random 8 Disabled) history (event.PollMtu 9) reply

  -- the next size, and the outcome of a probe of that size
  abbrev Next : RowHistory → Option ℕ → Type 0
  Next history size =
      let config : MtuDiscoveryConfig =
      record { interval = 600; upper_bound = 1452; minimum_change = 20; black_hole_cooldown = 60 } in
      next_size (row_start remote random 8 Disabled) config history ≡ size

  abbrev probed : ℕ → RowHistory → RowHistory
  probed size earlier = (event.PollMtu 9, Ok (answer.Probe 0 size)) ∷ earlier

  abbrev passes : ℕ → RowHistory → RowHistory
  passes size earlier = (event.Acked Data 9 0 false, Ok (answer.Acked true)) ∷ probed size earlier

  abbrev fails : ℕ → RowHistory → RowHistory
  fails size earlier = (event.Lost Data 0, Ok (answer.Lost true)) ∷ probed size earlier

  the_middle_first : Next [] (Some 1326)
  the_middle_first = refl

  then_above_it : Next (passes 1326 []) (Some 1389)
  then_above_it = refl

  again_once_lost : Next (fails 1389 (passes 1326 [])) (Some 1389)
  again_once_lost = refl

  abbrev too_large : RowHistory
  too_large = fails 1389 (fails 1389 (fails 1389 (passes 1326 [])))

  below_once_thrice_lost : Next too_large (Some 1357)
  below_once_thrice_lost = refl

  the_most_at_last : Next (passes 1357 too_large) (Some 1388)
  the_most_at_last = refl

  abbrev over : RowHistory
  over = fails 1388 (fails 1388 (fails 1388 (passes 1357 too_large)))

  none_is_left : Next over None
  none_is_left = refl

  -- what the peer accepts is a bound
  within_the_limit : Next ((event.PeerLimit 1300, Ok answer.Done) ∷ []) (Some 1250)
  within_the_limit = refl

  one_less_is_wrong : ¬ RowHalves [] (Ok (answer.Probe 0 1325))
  one_less_is_wrong = λ halves.
      let is : Some 1326 ≡ Some 1325 = halves _ refl (omega arith) in omega (arith, same_Some 1326 1325 is)

  none_is_wrong : ¬ RowHalves [] (Ok answer.NoProbe)
  none_is_wrong = λ halves. none-some 1326 (sym (halves _ refl (omega arith) refl refl))

  another_after_one_loss_is_wrong : ¬ RowHalves (fails 1389 (passes 1326 [])) (Ok (answer.Probe 0 1357))
  another_after_one_loss_is_wrong = λ halves.
      let is : Some 1389 ≡ Some 1357 = halves _ refl (omega arith) in omega (arith, same_Some 1389 1357 is)

  one_more_is_wrong : ¬ RowHalves over (Ok (answer.Probe 0 1372))
  one_more_is_wrong = λ halves. none-some 1372 (halves _ refl (omega arith))

-- ---- one probe at a time: one is in flight as packet 7

module _ {F K Q S M P : Type 0} (beginning : Beginning F K Q S M P) where
  abbrev one_out : History Q S M P
  one_out = (event.PollMtu 2, Ok (answer.Probe 7 1389)) ∷ []

  its_own_number : OneProbeAtATime beginning one_out (event.Acked Data 5 7 false) (Ok (answer.Acked true))
  its_own_number = refl

  another_number : OneProbeAtATime beginning one_out (event.Lost Data 6) (Ok (answer.Lost false))
  another_number = refl

  not_another_number : ¬ OneProbeAtATime beginning one_out (event.Lost Data 6) (Ok (answer.Lost true))
  not_another_number = λ told. cc

  not_in_another_space : ¬ OneProbeAtATime beginning one_out (event.Acked Handshake 5 7 false) (Ok (answer.Acked true))
  not_in_another_space = λ told. cc

  no_second : ¬ OneProbeAtATime beginning one_out (event.PollMtu 3) (Ok (answer.Probe 8 1400))
  no_second = λ told. let quiet : true ≡ false = told.0 in cc

  no_limit_now : OneProbeAtATime beginning one_out (event.PeerLimit 1300) (Err refusal.Searching)
  no_limit_now = refl

  not_taken : ¬ OneProbeAtATime beginning one_out (event.PeerLimit 1300) (Ok answer.Done)
  not_taken = λ told. cc

  taken_before : OneProbeAtATime beginning [] (event.PeerLimit 1300) (Ok answer.Done)
  taken_before = refl

  not_refused_before : ¬ OneProbeAtATime beginning [] (event.PeerLimit 1300) (Err refusal.Searching)
  not_refused_before = λ told. cc

  -- a limit of nothing is no limit, and no other one is rejected so
  none_at_all : OneProbeAtATime beginning one_out (event.PeerLimit 0) (Err refusal.ZeroMtu)
  none_at_all = refl

  not_for_nothing : ¬ OneProbeAtATime beginning [] (event.PeerLimit 1300) (Err refusal.ZeroMtu)
  not_for_nothing = λ told. cc

  -- an MTU found elsewhere is taken exactly if discovery is disabled
  found_zero : OneProbeAtATime beginning one_out (event.MtuFound 0) (Err refusal.ZeroMtu)
  found_zero = refl

  found_unsearched : discovery_settings beginning ≡ None
      → OneProbeAtATime beginning [] (event.MtuFound 1400) (Ok answer.Done)
  found_unsearched is = rw is refl

  not_found_searched : (by : MtuDiscoveryConfig) → discovery_settings beginning ≡ Some by
      → ¬ OneProbeAtATime beginning [] (event.MtuFound 1400) (Ok answer.Done)
  not_found_searched by is = λ told. grind (arith, is, told)

module _ (Q S M P : Type 0) (queue : Q) (frames : M) where
  -- ---- searches: 1326 got through, and 1389 is in flight

  abbrev search_so_far : History Q S M P
  search_so_far =
      (event.PollMtu 2, Ok (answer.Probe 1 1389))
      ∷ (event.Acked Data 1 0 false, Ok (answer.Acked true))
      ∷ (event.PollMtu 0, Ok (answer.Probe 0 1326))
      ∷ []

  two_sizes : sizes_probed search_so_far ≡ 1389 ∷ 1326 ∷ []
  two_sizes = refl

  still_two : sizes_probed ((event.PollMtu 3, Ok answer.NoProbe) ∷ search_so_far) ≡ 1389 ∷ 1326 ∷ []
  still_two = refl

  none_after_return : sizes_probed ((event.RevertPath, Ok answer.Done) ∷ search_so_far) ≡ []
  none_after_return = refl

  none_in_flight_then : is_in_flight ((event.RevertPath, Ok answer.Done) ∷ search_so_far) ≡ false
  none_in_flight_then = refl

  none_after_reset : sizes_probed ((event.ResetPath 3, Ok answer.Done) ∷ search_so_far) ≡ []
  none_after_reset = refl

  another_is_no_end : is_in_flight ((event.Acked Data 3 9 false, Ok (answer.Acked false)) ∷ search_so_far) ≡ true
  another_is_no_end = refl

  -- ---- black holes: four bursts of large packets, each a number apart

  abbrev row_sent : ℕ → Event Q S M P × Reply Q
  row_sent n = (event.Send Data 5 1400 true None queue frames, Ok (answer.Sent n None))

  abbrev lost : ℕ → Event Q S M P × Reply Q
  lost n = (event.Lost Data n, Ok (answer.Lost false))

  abbrev all_sent : History Q S M P
  all_sent = row_sent 6 ∷ row_sent 5 ∷ row_sent 4 ∷ row_sent 2 ∷ row_sent 0 ∷ []

  abbrev three_lost : History Q S M P
  three_lost = lost 4 ∷ lost 2 ∷ lost 0 ∷ all_sent

  abbrev four_lost : History Q S M P
  four_lost = lost 6 ∷ three_lost

  large : size_of four_lost 2 ≡ 1400
  large = refl

  one_run : open_run (lost 5 ∷ three_lost)
      ≡ record { number = 5; bytes = 1400 } ∷ record { number = 4; bytes = 1400 } ∷ []
  one_run = refl

  reported : ReportsBlackHoleAtFour 1200 four_lost (event.LossesDone 9) (Ok (answer.BlackHole true))
  reported = (λ is. omega arith, λ four. refl)

  never_is_wrong : ¬ ReportsBlackHoleAtFour 1200 four_lost (event.LossesDone 9) (Ok (answer.BlackHole false))
  never_is_wrong = λ e. let is = e.1 refl in cc

  three_are_none : ReportsBlackHoleAtFour 1200 three_lost (event.LossesDone 9) (Ok (answer.BlackHole false))
  three_are_none = (λ is. cc, λ four. absurd (cc))

  three_is_wrong : ¬ ReportsBlackHoleAtFour 1200 three_lost (event.LossesDone 9) (Ok (answer.BlackHole true))
  three_is_wrong = λ e. let four = e.0 refl in omega (arith, four)

  -- consecutive numbers are one burst
  joined_is_wrong : ¬ ReportsBlackHoleAtFour 1200 (lost 5 ∷ three_lost) (event.LossesDone 9)
      (Ok (answer.BlackHole true))
  joined_is_wrong = λ e. let four = e.0 refl in omega (arith, four)

  -- a packet no smaller that was acknowledged refutes those before it
  refuted_is_wrong : ¬ ReportsBlackHoleAtFour 1200 (lost 6 ∷ (event.Acked Data 8 5 false, Ok (answer.Acked false)) ∷
      three_lost)
      (event.LossesDone 9) (Ok (answer.BlackHole true))
  refuted_is_wrong = λ e. let four = e.0 refl in omega (arith, four)

  -- a rejected acknowledgement refutes none
  refused_is_none : ¬ ReportsBlackHoleAtFour 1200 (lost 6 ∷ (event.Acked Data 8 9 false, Err refusal.NotTracked) ∷
      three_lost)
      (event.LossesDone 9) (Ok (answer.BlackHole false))
  refused_is_none = λ e. let is = e.1 refl in cc

  -- ---- small packets may be acknowledged in between

  abbrev small : ℕ → Event Q S M P × Reply Q
  small n = (event.Send Data 5 1200 true None queue frames, Ok (answer.Sent n None))

  abbrev acked : ℕ → Event Q S M P × Reply Q
  acked n = (event.Acked Data 8 n false, Ok (answer.Acked false))

  abbrev small_between : History Q S M P
  small_between = lost 6 ∷ acked 3 ∷ lost 4 ∷ acked 1 ∷ lost 2 ∷ lost 0 ∷ small 3 ∷ small 1 ∷ all_sent

  found_is_told : ¬ ReportsBlackHoleAtFour 1200 small_between (event.LossesDone 9) (Ok (answer.BlackHole false))
  found_is_told = λ e. let is = e.1 refl in cc

  -- a large one in between leaves nothing to report
  large_between : ReportsBlackHoleAtFour 1200 (lost 6 ∷ acked 5 ∷ three_lost) (event.LossesDone 9)
      (Ok (answer.BlackHole false))
  large_between = (λ is. cc, λ four. absurd (cc))
