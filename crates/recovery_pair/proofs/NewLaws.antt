-- New ends: nothing was sent or received.
use Rattle.std.proofs.Common.{◌≡◌, ℕ, ◌-◌, ◌⊎◌, ◌||◌, inl, inr, Bool, true, false, List, [], Some, ap, arith, refl, ◌∙◌}
use Rattle.rand_core.specs.Stream.{Stream}
use Rattle.recovery_base.specs.declared.below.SpaceId.{SpaceId}
use Rattle.recovery_history.specs.History.{History, begins, queue_model}
use Rattle.recovery_history.specs.Promises.Acknowledged.{WasReceived}
use Rattle.recovery_history.specs.declared.config.RecoveryConfig.{RecoveryConfig}
use Rattle.recovery_history.specs.Reachability.{ReachedBy}
use Rattle.recovery_losses.specs.declared.variables.Side.{Side}
use Rattle.recovery_losses.specs.declared.variables.Side.TheVariants as side
use Rattle.recovery_sender.specs.Senders.{state_in}
use Rattle.recovery_sender.specs.Calls.{IsNewSender, config_of}
use Rattle.recovery_sender.specs.declared.sender.Sender.{Sender}
use Rattle.recovery_pair.specs.declared.endpoint.Waiting.{Waiting}
use Rattle.recovery_pair.specs.declared.steps.End.{End}
use Rattle.recovery_pair.specs.declared.steps.End.TheVariants.{Client, Server}
use Rattle.recovery_pair.specs.Carried.{AddsContents, CarriesItems}
use Rattle.recovery_pair.specs.Pasts.{GoesOnQuietly, quiet}
use Rattle.recovery_pair.specs.Promises.Resends.{AddsItems}
use Rattle.recovery_pair.specs.Tied.{Flows, IsLogged, IsTied, validated_first}
use Rattle.recovery_pair.proofs.RisingLaws.{rises_new}
use Rattle.recovery_pair.specs.Waits.{waiting_in}
use Rattle.recovery_pair.proofs.ItemLaws.{call_carries}
use Rattle.recovery_pair.proofs.QuietLaws.{call_quietly}

none_received : {Q S M P : Type 0} (after : History Q S M P) → GoesOnQuietly [] after → (space : SpaceId) (n : ℕ)
    → WasReceived space n after → ⊥
none_received after goes space n was = by (goes.heard space n was)
  where
    by : ⊥ ⊎ (quiet.heard ≡ Some (space, n)) → ⊥
    by (inl never) = never
    by (inr never) = absurd cc

new_flows : {Q S M P : Type 0} (from : End) (past peer : History Q S M P) → GoesOnQuietly [] peer
    → Flows [] from past peer
new_flows from past peer goes = record {
  each = λ space n. inl (record {
    none = refl;
    away = record { undelivered = refl; unheard = none_received peer goes space n };
  });
}

-- an end with this past, whose settings say this of its peer's address
new_logged : {Q S M P : Type 0} (validated : Bool) (end : End) (first : Bool) (past : History Q S M P)
    → first ≡ validated_first end validated → GoesOnQuietly [] past → IsLogged validated [] end first past
new_logged validated end first past same goes = record {
  came = goes.came;
  discarded = goes.discarded;
  address = goes.validated first ∙ same;
  arrived = goes.arrived;
  left = goes.left;
  largest = goes.largest;
  times = goes.timed;
  elicits = goes.elicited;
  paths = goes.paths;
  flight = λ gone. omega arith;
  silent = goes.silent;
}

client_first : (first validated : Bool) → (first || true) ≡ true
client_first true validated = refl
client_first false validated = refl

server_first : (validated : Bool) → (validated || false) ≡ validated
server_first true = refl
server_first false = refl

module _ {F Q R C K S M P : Type 0} {f : _} {c : _} {q : _} {m : _} {r : _} where
  -- an end with a past in which nothing happened but the setting of a timer
  record StartsEmpty (config : RecoveryConfig F) (sender : Sender F Q R C K S M P f c q m r) : Type 0 where
    pub start : ℕ
    pub random : Stream
    pub past : History Q S M P
    pub came : ReachedBy (begins f.built c.words (queue_model q.contents q.words q.blank) config start random) past
        (state_in sender)
    pub goes : GoesOnQuietly [] past

  starts_empty : (side : Side) (config : RecoveryConfig F) (start : ℕ) (random : Stream)
      (sender : Sender F Q R C K S M P f c q m r) → IsNewSender side config start random sender
      → StartsEmpty (config_of side config) sender
  starts_empty side config start random sender new =
      let goes = call_quietly [] _ new.made sender new.does tt in
      let behind = goes.from (config_of side config) (start - 1) random [] new.came in
      record { start = start - 1; random = random; past = behind.0; came = behind.1; goes = behind.2 }

module _ {F Q R C K S M : Type 0} {f : _} {c : _} {q : _} {m : _} {r : _} where
  carries_first : (side : Side) (config : RecoveryConfig F) (start : ℕ) (random : Stream)
      (sender : Sender F Q R C K S M (List ℕ) f c q m r) → IsNewSender side config start random sender → (end : End)
      (waits : List Waiting) → waits ≡ []
      → ((measure : List ℕ → ℕ) → AddsItems measure → AddsContents q.words measure)
      → CarriesItems [] end (sender, waits)
  carries_first side config start random sender new end waits none adds =
      let goes = call_carries [] _ new.made sender new.does tt in
      let behind = goes.from (config_of side config) (start - 1) random [] new.came in
      record {
        own = record {
          config = config_of side config;
          start = start - 1;
          random = random;
          past = behind.0;
          came = behind.1;
        };
        held = λ measure zero_is space. (
            let one = behind.2.taken measure space in
            let two = ap (λ (all : List Waiting). waiting_in measure space all) none in omega (arith, one, two));
        sent = λ measure space n. (let one = behind.2.sent measure space n in omega (arith, one));
        lost = λ measure space. (let one = behind.2.lost measure space in omega (arith, one));
        calm = λ space. (behind.2.probed (λ items. 0) space refl).0;
        probed = λ measure zero_is space tracks. (
            let one = (behind.2.probed measure space refl).1 in omega (arith, one));
        adds = adds;
        passed = λ measure items space none. refl;
      }

  pub new_tied : (config others : RecoveryConfig F) (start : ℕ) (random words : Stream)
      (client server : Sender F Q R C K S M (List ℕ) f c q m r) → IsNewSender side.Client config start random client
      → IsNewSender side.Server others start words server → (client_waits server_waits : List Waiting)
      → client_waits ≡ [] → server_waits ≡ []
      → ((measure : List ℕ → ℕ) → AddsItems measure → AddsContents q.words measure)
      → IsTied others.validated [] client server [] client_waits server_waits
  new_tied config others start random words client server one two client_waits server_waits none no_more adds =
      let own = starts_empty side.Client config start random client one in
      let peer = starts_empty side.Server others start words server two in
      record {
        ends =
            record {
              own = record {
                config = config_of side.Client config;
                start = own.start;
                random = own.random;
                past = own.past;
                came = own.came;
              };
              peer = record {
                config = config_of side.Server others;
                start = peer.start;
                random = peer.random;
                past = peer.past;
                came = peer.came;
              };
              out = new_flows Client own.past peer.past peer.goes;
              back = new_flows Server peer.past own.past own.goes;
              logged = new_logged others.validated Client (config.validated || true) own.past
                  (client_first config.validated others.validated) own.goes;
              peer_logged = new_logged others.validated Server (others.validated || false) peer.past
                  (server_first others.validated) peer.goes;
              listed = refl;
              wired = tt;
              within = λ one. omega arith;
              own_rise = rises_new Client own.past peer.past own.goes;
              peer_rise = rises_new Server peer.past own.past peer.goes;
            };
        own_waits = λ measure space. omega arith;
        peer_waits = λ measure space. omega arith;
        own_items = carries_first side.Client config start random client one Client client_waits none adds;
        peer_items = carries_first side.Server others start words server two Server server_waits no_more adds;
        own_asked = λ space never. absurd never;
        peer_asked = λ space never. absurd never;
      }
