use Rattle.std.proofs.Common.{◌<◌, ◌^◌, rules, [], refl}
use Rattle.std.proofs.lemmas.Option.{none-some}
use Rattle.recovery_base.specs.declared.below.SpaceId.{SpaceId}
use Rattle.recovery_spaces.specs.Spaces.{space_of, SpaceAfter}
use Rattle.recovery_spaces.proofs.SpaceLaws.{fresh_space}
use Rattle.recovery_history.specs.History.{begins, queue_model}
use Rattle.recovery_history.proofs.CallerStateLaws.{untouched_made}
use Rattle.recovery_history.proofs.StateAfterLaws.{balanced_first, in_flight_law, paths_first}
use Rattle.recovery_history.proofs.SearchLaws.{where_allowed}
use Rattle.quic_recovery.proofs.driver.Recovery.new.Goals as goal

pub invariant_of-result : goal.invariant_of-result
invariant_of-result g c = record {
  balanced = balanced_first _ _ _ c.new-4.ensures c.new-2.ensures
      c.first_path.ensures.ledger;
  limited = λ limit is. absurd (none-some limit is);
}

pub returns-clause-state_after : goal.returns-clause-state_after
returns-clause-state_after g c =
    let words = g.Q.RetransmitQueue.words in
    let random = g.R.Rng.stream c.args.rng in
    let queues = queue_model g.Q.RetransmitQueue.contents words g.Q.RetransmitQueue.blank in
    let beginning = begins g.F.ControllerFactory.built g.F.Controller.Controller.words queues c.args.config c.args.now
    random in
    let made = c.new-2.ensures in
    let balanced = balanced_first _ _ _ c.new-4.ensures made
    c.first_path.ensures.ledger in
    let spaces : (space : SpaceId) → SpaceAfter words c.args.now [] (space_of space c.new-2.result) = λ space.
    fresh_space words c.args.now _ (made space) in
    record {
      parts = record {
        settings = refl;
        spaces = spaces;
        beside = λ space. untouched_made _ _ (made space).ecn (made space).crypto_offset;
        discarded = search rules;
        skipping = c.with_skips-filter.ensures;
        paths = paths_first beginning _ _ c.new-4.ensures c.first_path.ensures.ledger
            (c.first_path.ensures.state random);
        peer_limit = refl;
        in_flight = in_flight_law beginning [] _ _ spaces balanced;
        frequency = c.new-5.ensures;
        timers = search rules;
        remote_ids = search rules;
        local_ids = c.in_ok-local_cid_state.ensures.ids;
      };
      loss_times = λ space. (made space).loss_time;
    }

-- reached by no event
pub returns-clause-came : goal.returns-clause-came
returns-clause-came g c = record {
  replies = tt;
  state_after = (returns-clause-state_after g c).parts;
  small = where_allowed (λ settings. settings.upper_bound < 2 ^ 16) c.args.config.allow_mtud _
      c.upper_bound_fits.ensures;
}
