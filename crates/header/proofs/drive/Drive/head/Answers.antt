use Rattle.header.proofs.SoundLaws.{sound}
use Rattle.header.proofs.drive.Drive.head.Goals as goal

pub invariant_of-result : goal.invariant_of-result
invariant_of-result c = record { room = (sound c.args.self.image.now c.args.self.accepted).size }
