-- Document 01, "Values": "Surface, lane surface, station, axes: .. `station`, ..", the reference line at s. Read `station_of`.
use Rattle.std.specs.Prelude.{List, Float}
use Rattle.records.specs.declared.points.RefPoint.{RefPoint}
use Rattle.records.specs.Active.{value_in, slope_in}
use Rattle.records.specs.Roads.{Road, geom_index}
use Rattle.line_samples.specs.declared.points.Pose.{Pose}
use Rattle.line_pose.specs.Poses.{pose_of}

-- the pose at s of the geometry in use there
unfoldable pub pose_at : Road → List Float → Float → Pose
unfolding pose_of geom_index
pose_at road samples s = pose_of road samples (geom_index road s) s

-- "`RefPoint` stays a record of eight f64": elevation with its rate along s, bank with its rate; "none gives value and slope 0"
unfoldable pub station_of : Road → List Float → Float → RefPoint
unfolding pose_at value_in slope_in
station_of road samples s =
    record {
      s = s;
      x = (pose_at road samples s).x;
      y = (pose_at road samples s).y;
      heading = (pose_at road samples s).heading;
      z = value_in road.elevations s;
      grade = slope_in road.elevations s;
      bank = value_in road.superelevations s;
      bank_rate = slope_in road.superelevations s;
    }
