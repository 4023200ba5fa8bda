-- The caller's state of each path and each space (RFC 9000, 8.2, 13.4 and 19.6; RFC 9002, 6.1.2 and 7.6).
use Rattle.std.specs.Prelude.{◌≡◌, ℕ, Option, option_map, None, if◌then◌else◌}
use Rattle.recovery_base.specs.declared.below.SpaceId.{SpaceId}
use Rattle.recovery_base.specs.declared.below.frames.EcnCounts.{EcnCounts}
use Rattle.recovery_spaces.specs.Discarded.{is_discarded}
use Rattle.recovery_spaces.specs.Spaces.{Space, Spaces, space_of, with_space}
use Rattle.recovery_paths.specs.declared.path_pair.PathName.{PathName}
use Rattle.recovery_paths.specs.PathLog.{PerPath, OnEachPath, on_path_of, path_of}
use Rattle.recovery_paths.specs.PathMaking.{marks_made}
use Rattle.recovery_paths.specs.PathStates.{PathMarks, with_marks}
use Rattle.recovery_history.specs.RecoveryState.{RecoveryState}

-- ---- paths

-- no path was challenged, and packets are marked on each
abbrev pub AreMarksFresh : PerPath PathMarks → Type 0
AreMarksFresh = OnEachPath (λ marks. marks ≡ marks_made None)

-- the marks of a path, if it exists
abbrev pub marks_at : {K P M : Type 0} → PathName → RecoveryState K P M → Option PathMarks
marks_at name recovery = option_map (λ path. path.marks) (path_of name recovery.paths)

-- the path gets other marks
abbrev pub with_marks_at : {K P M : Type 0} → PathName → PathMarks → RecoveryState K P M → RecoveryState K P M
with_marks_at name marks recovery = record recovery { paths = on_path_of name (with_marks marks) recovery.paths }

-- ---- spaces

-- counts of the packets received with each ECN codepoint, when a packet is to be declared lost, and the bytes of CRYPTO
-- frames sent
abbrev pub caller_fields_of : {P M : Type 0} → Space P M → EcnCounts × Option ℕ × ℕ
caller_fields_of space = (space.ecn_counters, space.loss_time, space.crypto_offset)

-- those of them that nothing sets
abbrev pub unset_fields_of : {P M : Type 0} → Space P M → EcnCounts × ℕ
unset_fields_of space = (space.ecn_counters, space.crypto_offset)

-- no space has a time at which a packet is to be declared lost
abbrev pub HasNoLossTime : {P M : Type 0} → Spaces P M → Type 0
HasNoLossTime spaces = (space : SpaceId) → (space_of space spaces).loss_time ≡ None

-- a packet of a space is to be declared lost at this time, or none
abbrev pub with_loss_time : {P M : Type 0} → Option ℕ → Space P M → Space P M
with_loss_time time space = record space { loss_time = time }

-- sets the loss time of a space in a recovery, unless the space is discarded
abbrev pub with_loss_time_at : {K P M : Type 0} → SpaceId → Option ℕ → RecoveryState K P M → RecoveryState K P M
with_loss_time_at space time recovery = if is_discarded space recovery.discarded then recovery else record recovery {
  spaces = with_space recovery.spaces space (with_loss_time time (space_of space recovery.spaces));
}
