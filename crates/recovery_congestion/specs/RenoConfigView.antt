-- The value of a `NewRenoConfig` in contracts.
use Rattle.recovery_congestion.specs.RenoSettings.{RenoSettings}
use Rattle.recovery_congestion.specs.declared.congestion.new_reno.NewRenoConfig.TheInside.{Inside}

abbrev pub settings_in : Inside → RenoSettings
settings_in config = record {
  initial_window = config.initial_window;
  numerator = config.numerator;
  denominator = config.denominator;
}

abbrev pub settings_back : RenoSettings → Inside
settings_back settings =
    record {
      initial_window = settings.initial_window;
      numerator = settings.numerator;
      denominator = settings.denominator;
    }
