use Prim.Native.Nat.{◌≤◌}
use lib.ListN.{length, length-take}
use Rattle.dcdump.specs.Messages.{bad_line}
use Rattle.dcdump.proofs.Written.{file_inside, framed_file, framed_bad, output_whole}
use native.Mathlib.Omega.{arith}
use Rattle.dcdump.proofs.dump.dump.Goals as goal
use Rattle.dcdump.proofs.dump.dump.Goals.{In-Ok}

-- the bytes of the file lie in the buffer
fits : (c : In-Ok) → c.in-Ok.n ≤ length c.read_frames.new.out
fits c =
    let k = c.read_frames in
    omega (arith, file_inside c.args.input.now _ k.ensures.answer c.in-Ok.is, k.auto.out, c.zeros-file.ensures)

pub slice_bounds-file-end : goal.slice_bounds-file-end
slice_bounds-file-end c = fits (goal.at.slice_bounds-file-end c).In-Ok

pub slice_bounds-judge-end : goal.slice_bounds-judge-end
slice_bounds-judge-end c = rw length-take (omega (arith, fits (goal.at.slice_bounds-judge-end c).In-Ok))

pub returns-in-Ok : goal.returns-in-Ok
returns-in-Ok c = let x = c.args.input.now in
    let k = c.read_frames in
    let both = output_whole x (framed_file x _ k.ensures.answer c.in-Ok.is _ k.new.out k.ensures.file) c.requires c.judge.ensures in record { long = both.0; bytes = both.1 }

pub returns-in-Err : goal.returns-in-Err
unfolding bad_line
returns-in-Err c = let x = c.args.input.now in
    let both = output_whole x (framed_bad x c.read_frames.ensures.answer c.in-Err.is) c.requires c.put_line.ensures in record { long = both.0; bytes = both.1 }
