-- What holds for each call holds for all that a source gives.
use Rattle.std.proofs.Common.{◌≡◌, ◌≤◌, arith, List, [], ◌∷◌, ◌++◌, length, vec_capacity, refl, ap, sym, subst, ◌∙◌}
use Rattle.std.specs.Global.{Vec}
use Rattle.recovery_events.specs.Feeding.{PushesInto, TakesAll}
use Rattle.recovery_events.proofs.FeedingLaws.{fills}
use Rattle.recovery_sender.specs.declared.sender.Sender.{Sender}
use Rattle.recovery_sender.specs.Runs.{CallIntoSink, RunsCalls, CallsOverSource}
use Rattle.recovery_sender.specs.declared.calls.Call.{Call}
use Rattle.recovery_sender.proofs.WaitingLaws.{waits_by_answers}
use Rattle.recovery_sender.specs.declared.calls.CallRecord.{CallRecord}

module _ {F Q R C K S M P : Type 0} {f : _} {c : _} {q : _} {m : _} {r : _} where
  -- a sink of calls that passes on each reply
  module _ {T A : Type 0} (takes : T → CallRecord Q → T → Type 0) (took : A → Call Q S M P → A → Type 0)
      (sender_of : A → Sender F Q R C K S M P f c q m r) (sink_of : A → T)
      (each : (old : A) (call : Call Q S M P) (new : A) → took old call new
      → CallIntoSink takes (sender_of old) (sink_of old) call (sender_of new) (sink_of new)) where
    runs_over : (calls : List (Call Q S M P)) (old new : A) → TakesAll took old calls new
        → (said : List (CallRecord Q)) × RunsCalls calls said (sender_of old) (sender_of new)
        × TakesAll takes (sink_of old) said (sink_of new)
    runs_over [] old new is = ([], ap sender_of is, ap sink_of is)
    runs_over (call ∷ calls) old new is =
        let one = each old call is.0 is.1 in
        let rest = runs_over calls is.0 new is.2 in
        (one.said ∷ rest.0, (sender_of is.0, one.tells, rest.1), (sink_of is.0, one.taken, rest.2))

    pub runs_from : (AreGiven : List (Call Q S M P) → Type 0) (calls : List (Call Q S M P)) (old new : A)
        → AreGiven calls → TakesAll took old calls new
        → CallsOverSource (sender_of old) AreGiven (λ all. TakesAll takes (sink_of old) all (sink_of new))
        (sender_of new)
    runs_from AreGiven calls old new given is =
        let over = runs_over calls old new is in
        record {
          calls = calls;
          said = over.0;
          given = given;
          taken = over.2;
          runs = over.1;
          waits = waits_by_answers calls over.0 (sender_of old) (sender_of new) over.1;
        }

  -- each call has one reply
  even : (calls : List (Call Q S M P)) (said : List (CallRecord Q)) (old new : Sender F Q R C K S M P f c q m r)
      → RunsCalls calls said old new → length said ≡ length calls
  even [] [] old new is = refl
  even (call ∷ calls) (one ∷ said) old new is =
      let rest = even calls said is.0 new is.2 in omega (arith, rest)
  even [] (one ∷ said) old new is = absurd is
  even (call ∷ calls) [] old new is = absurd is

  -- of two lists, if the second had room
  pub over_lists : (calls : List (Call Q S M P)) (room filled : Vec (CallRecord Q))
      (old new : Sender F Q R C K S M P f c q m r) → room.items ≡ [] → length calls ≤ vec_capacity room
      → CallsOverSource old (λ all. all ≡ calls) (λ all. TakesAll PushesInto room all filled) new
      → RunsCalls calls filled.items old new
  over_lists calls room filled old new none fits over =
      let same = ap (λ l. length l) over.given in
      let empty = ap (λ l. length l) none in
      let alike = even over.calls over.said old new over.runs in
      let full : filled.items ≡ over.said =
      fills room filled over.said over.taken (omega (arith, alike, same, fits, empty))
      ∙ ap (λ l. l ++ over.said) none in
      subst (λ all. RunsCalls all filled.items old new) over.given
      (subst (λ all. RunsCalls over.calls all old new) (sym full) over.runs)
