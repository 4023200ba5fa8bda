use Rattle.recovery_cubic.proofs.FollowingLaws.{goes_to_curve}
use Rattle.recovery_cubic.proofs.laws.cubic_goes_to_the_curve.Goals as goal

pub returns : goal.returns
returns c = λ window made mtu call later reduction earlier k at bytes begins goes is.
    goes_to_curve window made mtu reduction earlier k begins call later at bytes goes is
