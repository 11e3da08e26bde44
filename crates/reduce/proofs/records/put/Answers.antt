-- What has room below the cap is laid whole.
use Rattle.reduce.proofs.WriteLaws.{put_whole}
use Rattle.reduce.proofs.records.put.Goals as goal

pub returns : goal.returns
returns c =
    put_whole c.args.s.now c.args.room.now
    c.requires.0 c.requires.1
    c.put.ensures
